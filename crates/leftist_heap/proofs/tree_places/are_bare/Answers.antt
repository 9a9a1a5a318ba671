use Rattle.std.proofs.Common.{refl, sym, ◌∙◌, ap, slice_index_or, arith}
use Rattle.leftist_heap.proofs.Sifts.{by_place}
use Rattle.leftist_heap.proofs.Levels.{table_there}
use Rattle.leftist_heap.proofs.tree_places.are_bare.Goals as goal

pub loop-at-preserved : goal.loop-at-preserved
loop-at-preserved g c k last t =
    let at = c.loop-at.at in
    let xs = c.args.levels.now in
    let x = c.index-levels-at.result in
    let inside = c.loop-at-test.true in
    by_place k at
    (λ e. ap (λ m. m.keeps t) (sym (table_there g.L.Places.table xs k x (omega arith) (c.index-levels-at.is ∙ ap (λ i. slice_index_or xs i x) (sym e))))
    ∙ c.if-not-is_bare.ensures refl t)
    (λ n. c.loop-at.invariant k (omega arith) t)
