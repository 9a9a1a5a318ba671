use Rattle.std.proofs.Common.{◌≡◌, ◌∷◌, ◌++◌, [], sym, ◌∙◌, subst, ap, IsPermutation, arith}
use Rattle.std.proofs.lemmas.List.{take_at}
use Rattle.std.proofs.lemmas.List.Sorted.{IsPermutation-sym, IsPermutation-trans, IsPermutation-to_front, length_permutation}
use Rattle.leftist_heap.specs.Places.{IsPlaced}
use Rattle.leftist_heap.specs.Depth.{depth_at}
use Rattle.leftist_heap.proofs.Placings.{placed_with}
use Rattle.leftist_heap.proofs.ticket_heap.put_in.Goals as goal

pub returns-clause-permutation : goal.returns-clause-permutation
returns-clause-permutation g c =
    let xs = c.args.heap.now.items in
    let x = c.args.item in
    let ys = c.rise.new.items in
    let kept = take_at ys _ _ (length_permutation _ _ c.rise.ensures.permutation ∙ c.deref_mut.ensures.len) in
    let is : c.deref_mut.result.now ≡ xs ++ x ∷ [] = c.deref_mut.ensures.value ∙ c.in_default.ensures.items in
    let more : IsPermutation (xs ++ x ∷ []) ys = subst (λ l. IsPermutation l ys) is c.rise.ensures.permutation in
    subst (IsPermutation (x ∷ xs)) (sym kept) (IsPermutation-trans _ _ _ (IsPermutation-sym _ _ (IsPermutation-to_front xs x)) more)

pub returns-clause-placed : goal.returns-clause-placed
returns-clause-placed g c keeps none placed =
    let xs = c.args.heap.now.items in
    let x = c.args.item in
    let ys = c.rise.new.items in
    let kept = take_at ys _ _ (length_permutation _ _ c.rise.ensures.permutation ∙ c.deref_mut.ensures.len) in
    let is : c.deref_mut.result.now ≡ xs ++ x ∷ [] = c.deref_mut.ensures.value ∙ c.in_default.ensures.items in
    subst (IsPlaced g.T.HasTicket.ticket_of (g.P.Places.table c.rise.new.places)) (sym kept)
    (c.rise.ensures.placed (placed_with g.T.HasTicket.ticket_of xs c.deref_mut.result.now x c.len-at.result (g.P.Places.table c.args.places.now)
    is (c.len-at.ensures ∙ c.args.heap.now.ok.0) keeps none placed))

pub returns-clause-counted : goal.returns-clause-counted
returns-clause-counted g c =
    let rose = c.rise.ensures.counted in
    omega (arith, ap depth_at (c.len-at.ensures ∙ c.args.heap.now.ok.0))
