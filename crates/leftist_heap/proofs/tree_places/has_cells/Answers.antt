use Rattle.std.proofs.Common.{arith}
use Rattle.leftist_heap.proofs.Levels.{resized}
use Rattle.leftist_heap.proofs.tree_places.has_cells.Goals as goal

pub returns-else-len-ge-TICKETS-clause-same : goal.returns-else-len-ge-TICKETS-clause-same
returns-else-len-ge-TICKETS-clause-same g c =
    let size = c.args.cells.now.ok.0 in
    let len = c.len.ensures in
    let short = c.if-len-ge-TICKETS.false in
    resized c.args.cells.now.items c.resize.new.self.items 64 _ _ (omega arith) c.resize.ensures.items
