use Rattle.desk_core.specs.Words.{word_number}
use Rattle.flat_queue.specs.Taking.{TakesOneBy, told_item}
use Rattle.flat_queue.specs.declared.event_count.Wakes.TheVariants.{EventOrEnd}
use Rattle.flat_queue.proofs.TakenCalls.{takes_add, or_ends_add}
use Rattle.flat_queue.proofs.queue.Queue.take_or_end.Goals as goal

pub returns-clause-adds : goal.returns-clause-adds
returns-clause-adds g c =
    let before = c.args.member.now in
    let after = c.take_waking.new.member in
    or_ends_add _ EventOrEnd (TakesOneBy (word_number g.P.Part.wide) EventOrEnd) told_item before after c.take_waking.result (λ told. takes_add _ EventOrEnd before after told) c.take_waking.ensures.takes
