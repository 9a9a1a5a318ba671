use Rattle.std.proofs.Common.{arith}
use Rattle.std_alloc.proofs.vec.Slotted.{hole_moves}
use Rattle.leftist_heap.proofs.sifting.move_hole.Goals as goal

pub returns-clause-items : goal.returns-clause-items
returns-clause-items g c =
    let old = c.args.row.now in
    let hole = c.requires.0 in
    let within = hole.within in
    let room = c.requires.1 in
    let items = old.ok.0 in
    hole_moves old.items _ c.args.hole c.args.other c.args.item.now (omega arith) (omega arith) c.requires.2 (c.shift.ensures.items c.args.item.now)
