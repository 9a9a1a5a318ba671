use Rattle.std.proofs.Common.{◌≡◌, ◌∙◌, sym, subst}
use Rattle.desk_core.specs.Words.{word_number}
use Rattle.flat_queue.specs.Due.{TakesDueOrEndsBy}
use Rattle.flat_queue.specs.declared.take_steps.Left.TheVariants.{Nothing}
use Rattle.flat_queue.specs.DueSteps.{SightsOnceBy}
use Rattle.flat_queue.specs.declared.due_steps.DueStepped.TheVariants.{Ends, Goes}
use Rattle.flat_queue.proofs.DueStepping.{DueSoFarBy, due_ends, due_goes, due_still}
use Rattle.flat_queue.proofs.queue.Queue.take_due_waking.Goals as goal

pub returns-in-Ends-clause-takes : goal.returns-in-Ends-clause-takes
returns-in-Ends-clause-takes g c =
    let words = word_number g.P.Part.wide in
    let may_tell = g.R.TimeSource.may_tell c.args.rt.now in
    let call = c.args.call in
    let now = c.in-Some-clock.now in
    let before = c.args.member.now in
    let after = c.step_due-told.new.member in
    let s = subst (λ k. DueSoFarBy words c.args.call.wakes before k c.loop.member) c.in-Some-clock.is c.loop.invariant.2 in
    subst (λ r. TakesDueOrEndsBy words call.wakes may_tell call.times call.deadline before r after) (sym c.due_by.ensures.told)
    (due_ends words call.wakes (c.at.result.left ≡ Nothing) may_tell call.times call.deadline c.at.result.wanted now before c.loop.member after c.in-Ends.took s (subst (λ k. SightsOnceBy words k (c.at.result.left ≡ Nothing) c.at.result.wanted c.loop.member (Ends c.in-Ends.took) after) c.at.ensures.wakes c.in-Ends.ensures.steps)
    (subst may_tell c.in-Some-clock.is c.loop.invariant.3) c.at.ensures.late c.at.ensures.due c.at.ensures.all c.due_by.ensures.range)

pub loop-preserved : goal.loop-preserved
loop-preserved g c =
    let words = word_number g.P.Part.wide in
    let may_tell = g.R.TimeSource.may_tell c.args.rt.now in
    let late = c.at.result.left ≡ Nothing in
    let wants = c.at.result.wanted in
    let now = c.in-Some-clock.now in
    let before = c.args.member.now in
    let after = c.step_due-told.new.member in
    let next = c.in-Goes.next in
    let h = subst (λ k. SightsOnceBy words k late wants c.loop.member (Goes next) after) c.at.ensures.wakes c.in-Goes.ensures.steps in
    let s = subst (λ k. DueSoFarBy words c.args.call.wakes before k c.loop.member) c.in-Some-clock.is c.loop.invariant.2 in
    let i = due_still words c.args.call.wakes late wants c.loop.member after next c.loop.invariant.1 h in (
      i.0 ∙ c.loop.invariant.0,
      i.1,
      due_goes words c.args.call.wakes late wants now c.time_at-clock.result before c.loop.member after next s h c.time_at-clock.ensures.keeps,
      c.time_at-clock.ensures.told (subst may_tell c.in-Some-clock.is c.loop.invariant.3),
    )
