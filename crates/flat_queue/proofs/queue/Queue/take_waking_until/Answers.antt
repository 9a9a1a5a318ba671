use Rattle.std.proofs.Common.{◌≡◌, ◌∙◌, sym, subst}
use Rattle.desk_core.specs.Words.{word_number}
use Rattle.flat_queue.specs.Taking.{TakesUntilBy, OrEndsBy}
use Rattle.flat_queue.specs.TakeSteps.{TakeStepsBy}
use Rattle.flat_queue.specs.declared.take_steps.Left.TheVariants.{Nothing}
use Rattle.flat_queue.specs.declared.take_steps.TakeStage.TheVariants.{Pops}
use Rattle.flat_queue.specs.declared.take_steps.TakeStepped.TheVariants.{Goes}
use Rattle.flat_queue.proofs.Takings.{behind_until}
use Rattle.flat_queue.proofs.TakeStepping.{pop_ends, pop_behind, pop_goes, missed_yet}
use Rattle.flat_queue.proofs.queue.Queue.take_waking_until.Goals as goal

pub returns-in-Ends-clause-takes : goal.returns-in-Ends-clause-takes
returns-in-Ends-clause-takes g c =
    let may_tell = g.R.TimeSource.may_tell c.args.rt.now in
    subst (λ r. OrEndsBy (word_number g.P.Part.wide) c.args.wakes (TakesUntilBy (word_number g.P.Part.wide) c.args.wakes may_tell c.args.deadline) c.args.member.now r c.step_take-told.new.member) (sym c.awaited_by.ensures)
    (pop_ends _ c.args.wakes (c.loop.clock.0 ≡ Nothing) may_tell c.args.deadline c.args.member.now c.loop.member c.step_take-told.new.member c.in-Ends.took c.loop.clock.1 c.loop.invariant.2
    c.in-Ends.ensures.steps c.loop.invariant.3)

pub returns-in-Announces-clause-takes : goal.returns-in-Announces-clause-takes
returns-in-Announces-clause-takes g c =
    let it = c.in-Announces in
    let after = c.step_take-told.new.member in
    let h = subst (λ s. TakeStepsBy (word_number g.P.Part.wide) c.args.wakes (c.loop.clock.0 ≡ Nothing) Pops c.loop.member (Goes s) after) it.is c.in-Goes.ensures.steps in
    behind_until _ c.args.wakes (g.R.TimeSource.may_tell c.args.rt.now) c.args.deadline c.args.member.now after c.look_on.new.member it.line c.look_on.result
    (pop_behind c.args.member.now c.loop.member after it.line c.loop.invariant.2 h) c.look_on.ensures.looks

pub loop-preserved : goal.loop-preserved
loop-preserved g c =
    let after = c.step_take-told.new.member in
    let late = c.loop.clock.0 ≡ Nothing in
    let h = subst (λ s. TakeStepsBy (word_number g.P.Part.wide) c.args.wakes late Pops c.loop.member (Goes s) after) c.in-Pops.is c.in-Goes.ensures.steps in
    let i = pop_goes (word_number g.P.Part.wide) c.args.wakes late c.loop.member after Pops c.loop.invariant.1 h in
    (i.0 ∙ c.loop.invariant.0, i.1, missed_yet c.args.member.now c.loop.member after c.loop.invariant.2 h, c.left-clock.ensures)
