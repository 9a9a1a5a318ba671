use Rattle.std.proofs.Common.{sym}
use Rattle.flat_queue.proofs.Swept.{swept_whole}
use Rattle.flat_queue.proofs.queue.Queue.sweep.Goals as goal

pub returns-clause-swept : goal.returns-clause-swept
returns-clause-swept g c =
    let e = c.sweep_places.ensures in
    swept_whole _ c.args.member.now c.member.inside.rest c.member.inside.stopped c.sweep_places.new.stopped c.member.inside.pen c.sweep_places.new.pen c.sweep_places.result.served c.sweep_places.result.doors
    (sym c.member.view_is) c.member.invariant e.scanned e.table e.served e.few
