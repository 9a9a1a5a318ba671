use Rattle.std.proofs.Common.{◌≡◌, map, length, sym, subst, arith}
use Rattle.std.proofs.lemmas.List.{map-set, length-map}
use Rattle.leftist_heap.specs.Places.{IsMarked, branch_table}
use Rattle.leftist_heap.proofs.Levels.{set_marked, table_there}
use Rattle.leftist_heap.proofs.tree_places.BranchPlaces.mark.Goals as goal

pub returns-then-level-len : goal.returns-then-level-len
returns-then-level-len g c =
    let f = g.L.Places.table in
    let span = g.row.SPAN in
    let xs = c.args.self.now.levels.items in
    let i = c.split-level.result.0 in
    let x = c.index_mut.result.now in
    let y = c.mark.new.self in
    let size : c.args.self.now.levels.len ≡ length xs = c.args.self.now.levels.ok.0 in
    let len = c.len.ensures in
    let inside = c.if-level-len.true in
    let long : length (map f xs) ≡ length xs = length-map xs f in
    subst (λ l. IsMarked (branch_table span (map f xs)) (branch_table span l) c.args.ticket c.args.place) (sym (map-set f xs i y))
    (set_marked span (map f xs) i (f x) (f y) (omega arith) (table_there f xs i x (omega arith) c.index_mut.ensures.value)
    c.args.ticket c.args.place c.split-level.ensures.place
    (subst (λ r. IsMarked (f x) (f y) r c.args.place) c.split-level.ensures.rest c.mark.ensures))
