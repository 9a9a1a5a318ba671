use Rattle.std.proofs.Common.{◌≡◌, length, refl, subst, sym, arith}
use Rattle.std.specs.List.Sorted.{IsPermutation}
use lib.ListN.{length-set}
use Rattle.std.proofs.lemmas.List.Sorted.{IsPermutation-trans}
use Rattle.std_alloc.specs.Vec.Detached.{seen}
use Rattle.std_alloc.proofs.Permutation.{swap_shuffles}
use Rattle.leftist_heap.specs.Order.{by_rank}
use Rattle.leftist_heap.specs.Sifting.{IsSinking}
use Rattle.leftist_heap.proofs.ByRank.{rank_order}
use Rattle.leftist_heap.proofs.Sifts.{sinks, only_below}
use Rattle.leftist_heap.proofs.Holes.{swapped, as_long}
use Rattle.leftist_heap.proofs.placing.sink_to_end.Goals as goal

pub sink_from-requires-clause-sinking : goal.sink_from-requires-clause-sinking
sink_from-requires-clause-sinking g c =
    let before = by_rank g.T.Exact.rank_of in
    let o = rank_order g.T.Exact.rank_of in
    let x = c.args.item.now in
    let old = c.args.row.now in
    let xs = seen old 0 x in
    let ys = seen c.move_marked.new.row 1 x in
    let counted : old.len ≡ length old.items = old.ok.0 in
    let within = c.requires.hole.within in
    let len = c.len.ensures in
    let more = c.if-len-eq1.false in
    let long : length xs ≡ length old.items = length-set old.items 0 x in
    let moved = c.move_marked.ensures.items in
    let first : IsSinking before xs 0 = subst (λ h. IsSinking before (seen old h x) h) c.if-hole-eq0.true c.requires.sinking in
    sinks before xs ys 0 1 (swapped xs ys 0 1 (omega arith) (omega arith) moved) (as_long xs ys 0 1 (omega arith) (omega arith) moved)
    (omega arith) (omega arith) refl (only_below before o xs) first

pub returns-then-hole-eq0-clause-permutation : goal.returns-then-hole-eq0-clause-permutation
returns-then-hole-eq0-clause-permutation g c =
    let x = c.args.item.now in
    let old = c.args.row.now in
    let xs = seen old 0 x in
    let ys = seen c.move_marked.new.row 1 x in
    let zs = seen c.sink_from.new.row c.sink_from.result x in
    let counted : old.len ≡ length old.items = old.ok.0 in
    let within = c.requires.hole.within in
    let len = c.len.ensures in
    let more = c.if-len-eq1.false in
    let long : length xs ≡ length old.items = length-set old.items 0 x in
    subst (λ h. IsPermutation (seen old h x) zs) (sym c.if-hole-eq0.true)
    (IsPermutation-trans _ _ _ (swap_shuffles xs ys 0 1 (omega arith) (omega arith) c.move_marked.ensures.items) c.sink_from.ensures.permutation)
