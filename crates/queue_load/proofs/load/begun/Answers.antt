use Rattle.queue_load.proofs.Opening.{begins_load}
use Rattle.queue_load.proofs.load.begun.Goals as goal

pub returns-in-Ok-clause-ok : goal.returns-in-Ok-clause-ok
returns-in-Ok-clause-ok g c =
    let opens = c.in_ok-queue.ensures.ok in
    begins_load c.in_ok-queue.queue c.args.plan c.in_ok-queue.newcomers.items c.in-Ok.states.items opens.room_is c.args.plan.fits opens.counted opens.dealt c.in-Ok.ensures
