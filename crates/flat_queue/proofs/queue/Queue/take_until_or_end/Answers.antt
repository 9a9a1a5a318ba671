use Rattle.desk_core.specs.Words.{word_number}
use Rattle.flat_queue.specs.Taking.{TakesUntilBy, awaited_item}
use Rattle.flat_queue.specs.declared.event_count.Wakes.TheVariants.{EventOrEnd}
use Rattle.flat_queue.proofs.TakenCalls.{until_adds, or_ends_add}
use Rattle.flat_queue.proofs.queue.Queue.take_until_or_end.Goals as goal

pub returns-clause-adds : goal.returns-clause-adds
returns-clause-adds g c =
    let may_tell = g.R.TimeSource.may_tell c.args.rt.now in
    let before = c.args.member.now in
    let after = c.take_waking_until.new.member in
    or_ends_add _ EventOrEnd (TakesUntilBy (word_number g.P.Part.wide) EventOrEnd may_tell c.args.deadline) awaited_item before after c.take_waking_until.result
    (λ told. until_adds _ EventOrEnd may_tell c.args.deadline before after told) c.take_waking_until.ensures.takes
