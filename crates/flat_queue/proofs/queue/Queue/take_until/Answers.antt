use Rattle.flat_queue.specs.declared.event_count.Wakes.TheVariants.{Event}
use Rattle.flat_queue.proofs.TakenCalls.{unawaited_adds}
use Rattle.flat_queue.proofs.queue.Queue.take_until.Goals as goal

pub returns-in-Err-clause-adds : goal.returns-in-Err-clause-adds
returns-in-Err-clause-adds g c =
    unawaited_adds _ Event (g.R.TimeSource.may_tell c.args.rt.now) c.args.deadline c.args.member.now c.take_waking_until.new.member c.in-Err.error c.in-Err.ensures.takes
