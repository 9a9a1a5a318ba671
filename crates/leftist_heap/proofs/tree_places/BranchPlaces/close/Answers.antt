use Rattle.std.proofs.Common.{◌≡◌, ◌∙◌, length, arith}
use Rattle.leftist_heap.proofs.Levels.{tables_closed}
use Rattle.leftist_heap.proofs.tree_places.BranchPlaces.close.Goals as goal

pub returns-then-place-len-2 : goal.returns-then-place-len-2
returns-then-place-len-2 g c =
    let xs = c.args.self.now.levels.items in
    let size : c.args.self.now.levels.len ≡ length xs = c.args.self.now.levels.ok.0 in
    let len = c.len.ensures in
    let inside = c.if-place-len.false in
    tables_closed g.L.Places.table g.row.SPAN xs c.split-place.result.0 c.index_mut.result.now c.close.new.self (omega arith)
    c.index_mut.ensures.value c.args.ticket c.split-place.result.1 c.split-place.ensures.place c.split-place.ensures.rest c.close.ensures

pub returns : goal.returns
returns g c t other kept =
    let xs = c.args.self.now.levels.items in
    let size : c.args.self.now.levels.len ≡ length xs = c.args.self.now.levels.ok.0 in
    let len = c.len.ensures in
    let inside = c.if-place-len.false in
    let closed = tables_closed g.L.Places.table g.row.SPAN xs c.split-place.result.0 c.index_mut.result.now c.close.new.self (omega arith)
    c.index_mut.ensures.value c.args.ticket c.split-place.result.1 c.split-place.ensures.place c.split-place.ensures.rest c.close.ensures t other kept in
    let left = c.is_tidied-is_emptied.ensures.still g.row.SPAN t closed.0 in
    (left.0, left.1 ∙ closed.1)
