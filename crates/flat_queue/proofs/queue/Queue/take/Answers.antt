use Rattle.std.proofs.Common.{subst}
use Rattle.std.specs.Prelude.{Ok}
use Rattle.desk_core.specs.Words.{word_number}
use Rattle.flat_queue.specs.Taking.{OrEndsBy, TakesOneBy}
use Rattle.flat_queue.specs.declared.event_count.Wakes.TheVariants.{Event}
use Rattle.flat_queue.proofs.TakenCalls.{took_adds, refused_adds}
use Rattle.flat_queue.proofs.queue.Queue.take.Goals as goal

pub returns-in-Ok-Some-clause-adds : goal.returns-in-Ok-Some-clause-adds
returns-in-Ok-Some-clause-adds g c =
    let words = word_number g.P.Part.wide in
    let before = c.args.member.now in
    let after = c.take_waking.new.member in
    took_adds words Event before after c.in-Ok-Some.told (subst (λ some. OrEndsBy words Event (TakesOneBy words Event) before (Ok some) after) c.in-Ok-Some.field-0-is c.in-Ok-Some.ensures.takes)

pub returns-in-Err-clause-adds : goal.returns-in-Err-clause-adds
returns-in-Err-clause-adds g c = refused_adds (word_number g.P.Part.wide) Event c.args.member.now c.take_waking.new.member c.in-Err.error c.in-Err.ensures.takes
