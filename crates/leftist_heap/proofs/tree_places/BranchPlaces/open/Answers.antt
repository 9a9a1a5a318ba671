use Rattle.std.proofs.Common.{◌≡◌, map, length, sym, subst, true, set, arith}
use Rattle.std.proofs.lemmas.List.{map-set, length-map}
use Rattle.leftist_heap.specs.Places.{branch_table}
use Rattle.leftist_heap.proofs.Levels.{tables_still, set_kept, still_on, table_there}
use Rattle.leftist_heap.proofs.tree_places.BranchPlaces.open.Goals as goal

pub returns-clause-others : goal.returns-clause-others
returns-clause-others g c =
    let f = g.L.Places.table in
    let span = g.row.SPAN in
    let xs = c.args.self.now.levels.items in
    let ys = c.grows.new.levels.items in
    let i = c.split-place.result.0 in
    let x = c.index_mut.result.now in
    let y = c.open-is_kept.new.self in
    let inside = c.if-not-grows.ensures.levels in
    still_on span (map f xs) (map f ys) (map f (set ys i y)) (c.grows.ensures.same span)
    (tables_still f span ys i x y (omega arith) c.index_mut.ensures.value c.open-is_kept.ensures.others)

pub returns-clause-kept : goal.returns-clause-kept
returns-clause-kept g c kept =
    let f = g.L.Places.table in
    let span = g.row.SPAN in
    let ys = c.grows.new.levels.items in
    let i = c.split-place.result.0 in
    let x = c.index_mut.result.now in
    let y = c.open-is_kept.new.self in
    let inside = c.if-not-grows.ensures.levels in
    let long : length (map f ys) ≡ length ys = length-map ys f in
    subst (λ l. (branch_table span l).keeps c.args.ticket ≡ true) (sym (map-set f ys i y))
    (set_kept span (map f ys) i (f x) (f y) (omega arith) (table_there f ys i x (omega arith) c.index_mut.ensures.value) c.args.ticket c.split-place.ensures.place
    (subst (λ r. (f y).keeps r ≡ true) c.split-place.ensures.rest (c.open-is_kept.ensures.kept kept)))
