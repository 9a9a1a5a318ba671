use Rattle.std.proofs.Common.{sym}
use Rattle.flat_queue.proofs.TrailSwept.{trail_swept}
use Rattle.flat_queue.proofs.queue.Queue.sweep_trail.Goals as goal

pub returns-clause-swept : goal.returns-clause-swept
returns-clause-swept g c =
    let e = c.follow_places.ensures in
    trail_swept _ c.args.member.now c.member.inside.rest c.member.inside.stopped c.follow_places.new.stopped c.member.inside.pen c.follow_places.new.pen c.follow_places.result.served c.follow_places.result.doors
    (sym c.member.view_is) c.member.invariant e.still e.table e.served
