use Rattle.std.proofs.Common.{◌≡◌, ◌∙◌, sym, subst}
use Rattle.desk_core.specs.Words.{word_number}
use Rattle.flat_queue.specs.TakeSteps.{LooksOneTimeBy, TakeKeepsLook, looking_on}
use Rattle.flat_queue.specs.declared.take_steps.Left.TheVariants.{Nothing}
use Rattle.flat_queue.proofs.TakeStepping.{looks_as, over_as, keeps_as}
use Rattle.flat_queue.proofs.queue.Queue.step_looking.Goals as goal

pub returns-clause-steps : goal.returns-clause-steps
returns-clause-steps g c =
    subst (λ r. LooksOneTimeBy (word_number g.P.Part.wide) c.args.wakes (c.args.left ≡ Nothing) c.args.line c.args.member.now r c.step_due.new.member) (sym c.looked_on.ensures)
    (looks_as _ _ _ c.args.line c.args.member.now c.step_due.new.member c.step_due.result c.step_due.ensures.steps)

pub returns-clause-heeds : goal.returns-clause-heeds
returns-clause-heeds g c number e = c.step_due.ensures.heeds (over_as c.args.line number c.step_due.result (sym c.looked_on.ensures ∙ e))

pub returns-clause-keeps : goal.returns-clause-keeps
returns-clause-keeps g c =
    subst (TakeKeepsLook (looking_on c.args.line c.args.stage)) (sym c.looked_on.ensures) (keeps_as c.args.line c.args.stage c.step_due.result c.step_due.ensures.keeps)
