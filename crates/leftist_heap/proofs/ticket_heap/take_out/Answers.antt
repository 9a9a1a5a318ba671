use Rattle.std.proofs.Common.{◌∷◌, ◌-◌, length, sym, ◌∙◌, ap, subst, IsPermutation, arith}
use Rattle.core.proofs.slice.Lists.{any-default}
use Rattle.std.proofs.lemmas.List.{take_at}
use Rattle.std.proofs.lemmas.List.Sorted.{IsPermutation-swap_remove, IsPermutation-cons, IsPermutation-trans, length_permutation}
use Rattle.leftist_heap.specs.Order.{by_rank}
use Rattle.leftist_heap.specs.Sifting.{IsHeapBy, IsSinking}
use Rattle.leftist_heap.specs.Places.{IsPlaced, IsPlacedBut}
use Rattle.leftist_heap.proofs.ByRank.{rank_order}
use Rattle.leftist_heap.proofs.Sifts.{replaced, shorter}
use Rattle.leftist_heap.specs.Depth.{depth_at}
use Rattle.leftist_heap.proofs.Depths.{no_less_deep}
use Rattle.leftist_heap.proofs.Placings.{placed_without, placed_shorter}
use Rattle.leftist_heap.proofs.ticket_heap.take_out.Goals as goal

pub settle-steps-requires-clause-sinking : goal.settle-steps-requires-clause-sinking
settle-steps-requires-clause-sinking g c =
    let before = by_rank g.T.Exact.rank_of in
    let o = rank_order g.T.Exact.rank_of in
    let xs = c.args.heap.now.items in
    let took = c.swap_remove-item.ensures in
    let size = c.args.heap.now.ok.0 in
    let left = c.swap_remove-item.new.self.ok.0 in
    let len = took.len in
    subst (λ l. IsSinking before l c.args.at) (sym c.deref_mut.ensures.value)
    (replaced before o xs c.swap_remove-item.new.self.items c.args.at c.requires.heap (omega arith) (λ k d n l. took.by_index.1 k d n (omega arith)))

pub returns-then-at-len-clause-permutation : goal.returns-then-at-len-clause-permutation
returns-then-at-len-clause-permutation g c =
    let xs = c.args.heap.now.items in
    let x = c.swap_remove-item.result in
    let ys = c.swap_remove-item.new.self.items in
    let zs = c.settle-steps.new.items in
    let took = c.swap_remove-item.ensures in
    let kept = take_at zs _ _ (length_permutation _ _ c.settle-steps.ensures.permutation ∙ c.deref_mut.ensures.len) in
    let moved : IsPermutation xs (x ∷ ys) = subst (λ l. IsPermutation xs (x ∷ l)) (sym took.items)
    (IsPermutation-swap_remove xs c.args.at x c.requires.within took.value) in
    let sunk : IsPermutation ys zs = subst (λ l. IsPermutation l zs) c.deref_mut.ensures.value c.settle-steps.ensures.permutation in
    subst (λ l. IsPermutation xs (x ∷ l)) (sym kept) (IsPermutation-trans _ _ _ moved (IsPermutation-cons x ys zs sunk))

pub returns-then-at-len-clause-heap : goal.returns-then-at-len-clause-heap
returns-then-at-len-clause-heap g c =
    let kept = take_at c.settle-steps.new.items _ _ (length_permutation _ _ c.settle-steps.ensures.permutation ∙ c.deref_mut.ensures.len) in
    subst (IsHeapBy (by_rank g.T.Exact.rank_of)) (sym kept) c.settle-steps.ensures.heap

pub returns-then-at-len-clause-placed : goal.returns-then-at-len-clause-placed
returns-then-at-len-clause-placed g c placed =
    let ticket_of = g.T.HasTicket.ticket_of in
    let closed = g.P.Places.table c.close.new.self in
    let xs = c.args.heap.now.items in
    let x = c.swap_remove-item.result in
    let ys = c.swap_remove-item.new.self.items in
    let took = c.swap_remove-item.ensures in
    let size = c.args.heap.now.ok.0 in
    let left = c.swap_remove-item.new.self.ok.0 in
    let len = took.len in
    let count = c.len.ensures in
    let inside = c.if-at-len.true in
    let within = c.requires.within in
    let but : IsPlacedBut ticket_of closed ys c.args.at = placed_without ticket_of xs ys c.args.at c.args.heap.now.len
    (g.P.Places.table c.args.places.now) closed c.ticket.result size (omega arith) (omega arith) took.by_index.1 c.close.ensures
    (λ d. c.ticket.ensures ∙ ap ticket_of (took.value ∙ sym (any-default xs c.args.at d x within))) (omega arith) took.by_index.0 placed in
    let kept = take_at c.settle-steps.new.items _ _ (length_permutation _ _ c.settle-steps.ensures.permutation ∙ c.deref_mut.ensures.len) in
    subst (IsPlaced ticket_of (g.P.Places.table c.settle-steps.new.places)) (sym kept)
    (c.settle-steps.ensures.placed (subst (λ l. IsPlacedBut ticket_of closed l c.args.at) (sym c.deref_mut.ensures.value) but))

pub returns-clause-permutation : goal.returns-clause-permutation
returns-clause-permutation g c =
    let xs = c.args.heap.now.items in
    let x = c.swap_remove-item.result in
    let took = c.swap_remove-item.ensures in
    subst (λ l. IsPermutation xs (x ∷ l)) (sym took.items) (IsPermutation-swap_remove xs c.args.at x c.requires.within took.value)

pub returns-clause-heap : goal.returns-clause-heap
returns-clause-heap g c =
    let xs = c.args.heap.now.items in
    let took = c.swap_remove-item.ensures in
    let size = c.args.heap.now.ok.0 in
    let left = c.swap_remove-item.new.self.ok.0 in
    let len = took.len in
    let count = c.len.ensures in
    let end = c.if-at-len.false in
    let within = c.requires.within in
    shorter (by_rank g.T.Exact.rank_of) xs c.swap_remove-item.new.self.items c.args.at c.requires.heap (omega arith) (omega arith)
    (λ k d n l. took.by_index.1 k d n (omega arith))

pub returns-clause-placed : goal.returns-clause-placed
returns-clause-placed g c placed =
    let ticket_of = g.T.HasTicket.ticket_of in
    let xs = c.args.heap.now.items in
    let x = c.swap_remove-item.result in
    let took = c.swap_remove-item.ensures in
    let size = c.args.heap.now.ok.0 in
    let left = c.swap_remove-item.new.self.ok.0 in
    let len = took.len in
    let count = c.len.ensures in
    let end = c.if-at-len.false in
    let within = c.requires.within in
    placed_shorter ticket_of xs c.swap_remove-item.new.self.items c.args.at c.args.heap.now.len
    (g.P.Places.table c.args.places.now) (g.P.Places.table c.close.new.self) c.ticket.result size (omega arith) (omega arith) took.by_index.1 c.close.ensures
    (λ d. c.ticket.ensures ∙ ap ticket_of (took.value ∙ sym (any-default xs c.args.at d x within))) (omega arith) placed

pub returns-then-at-len-clause-counted : goal.returns-then-at-len-clause-counted
returns-then-at-len-clause-counted g c =
    let settled = c.settle-steps.ensures.counted in
    let size = c.args.heap.now.ok.0 in
    let left = c.swap_remove-item.new.self.ok.0 in
    let len = c.swap_remove-item.ensures.len in
    let kept = c.deref_mut.ensures.len in
    let low = no_less_deep (length c.deref_mut.result.now - 1) (length c.args.heap.now.items - 1) (omega arith) in
    omega arith
