use Rattle.std.proofs.Common.{rules, ◌<◌, ◌≡◌, ◌∙◌, ap, sym, subst}
use Rattle.std.specs.Prelude.{Some, IfSome}
use Rattle.desk_core.specs.Words.{word_number}
use Rattle.flat_queue.specs.Limits.{most_posts}
use Rattle.flat_queue.specs.Looking.{LooksFirstBy}
use Rattle.flat_queue.specs.DueSteps.{SightsOnceBy}
use Rattle.flat_queue.specs.declared.take_steps.Left.TheVariants.{Nothing}
use Rattle.flat_queue.proofs.Takings.{takes_now, full_now, ruled_now}
use Rattle.flat_queue.proofs.queue.Queue.step_sighting.Goals as goal

pub returns-in-Some-Taken-clause-steps : goal.returns-in-Some-Taken-clause-steps
returns-in-Some-Taken-clause-steps g c =
    let it = c.in-Some-Taken in
    let wants = c.args.now.wanted in
    let few : c.args.member.now.pen.posts < most_posts c.args.member.now.queue.room = search rules in
    let looked = subst (λ r. IfSome r (λ told. LooksFirstBy (word_number g.P.Part.wide) wants c.args.member.now told c.take_first.new.member)) (it.is ∙ ap Some it.field-0-is) c.take_first.ensures.looks in
    subst (λ r. SightsOnceBy (word_number g.P.Part.wide) c.args.now.wakes (c.args.now.left ≡ Nothing) wants c.args.member.now r c.take_first.new.member) (sym c.end_due-in-Some-Taken.ensures)
    (takes_now _ wants c.args.member.now c.take_first.new.member it.number it.item few looked, looked.1)

pub returns-in-Some-BookFull-clause-steps : goal.returns-in-Some-BookFull-clause-steps
returns-in-Some-BookFull-clause-steps g c =
    let it = c.in-Some-BookFull in
    let wants = c.args.now.wanted in
    let few : c.args.member.now.pen.posts < most_posts c.args.member.now.queue.room = search rules in
    let looked = subst (λ r. IfSome r (λ told. LooksFirstBy (word_number g.P.Part.wide) wants c.args.member.now told c.take_first.new.member)) (it.is ∙ ap Some it.field-0-is) c.take_first.ensures.looks in
    subst (λ r. SightsOnceBy (word_number g.P.Part.wide) c.args.now.wakes (c.args.now.left ≡ Nothing) wants c.args.member.now r c.take_first.new.member) (sym c.end_due-in-Some-BookFull.ensures)
    (full_now _ wants c.args.member.now c.take_first.new.member few looked)

pub returns-in-Some-Refused-clause-steps : goal.returns-in-Some-Refused-clause-steps
returns-in-Some-Refused-clause-steps g c =
    let it = c.in-Some-Refused in
    let wants = c.args.now.wanted in
    let few : c.args.member.now.pen.posts < most_posts c.args.member.now.queue.room = search rules in
    let looked = subst (λ r. IfSome r (λ told. LooksFirstBy (word_number g.P.Part.wide) wants c.args.member.now told c.take_first.new.member)) (it.is ∙ ap Some it.field-0-is) c.take_first.ensures.looks in
    subst (λ r. SightsOnceBy (word_number g.P.Part.wide) c.args.now.wakes (c.args.now.left ≡ Nothing) wants c.args.member.now r c.take_first.new.member) (sym c.end_due-in-Some-Refused.ensures)
    (ruled_now _ wants c.args.member.now c.take_first.new.member it.refusal few looked)
