use Rattle.std.proofs.Common.{◌≡◌, ◌∙◌, sym, subst}
use Rattle.desk_core.specs.Words.{word_number}
use Rattle.flat_queue.specs.Taking.{LooksUntilBy, LooksOnBy}
use Rattle.flat_queue.specs.declared.take_steps.Left.TheVariants.{Nothing}
use Rattle.flat_queue.proofs.TakeStepping.{looks_end, looks_go, looks_idle}
use Rattle.flat_queue.proofs.queue.Queue.look_on.Goals as goal

pub returns-in-Ends-clause-looks : goal.returns-in-Ends-clause-looks
returns-in-Ends-clause-looks g c =
    let may_end = g.D.Deadline.may_end c.args.deadline.now in
    subst (λ r. LooksOnBy (word_number g.P.Part.wide) c.args.wakes (LooksUntilBy (word_number g.P.Part.wide) may_end c.args.line) c.args.member.now r c.step_take-told.new.member) (sym c.awaited_by.ensures)
    (looks_end _ c.args.wakes c.args.line (c.left-left.result.0 ≡ Nothing) may_end c.args.member.now c.loop.member c.step_take-told.new.member c.loop.stage c.in-Ends.took c.left-left.result.1 c.loop.invariant.2
    c.in-Ends.ensures.steps c.left-left.ensures)

pub loop-preserved : goal.loop-preserved
loop-preserved g c =
    let late = c.left-left.result.0 ≡ Nothing in
    let after = c.step_take-told.new.member in
    let s = c.loop.invariant.2 in
    let h = c.in-Goes.ensures.steps in
    let i = looks_idle _ c.args.wakes c.args.line late c.args.member.now c.loop.member after c.loop.stage c.in-Goes.next c.loop.invariant.1 s h in
    (i.0 ∙ c.loop.invariant.0, i.1, looks_go _ c.args.wakes c.args.line late c.args.member.now c.loop.member after c.loop.stage c.in-Goes.next s h)
