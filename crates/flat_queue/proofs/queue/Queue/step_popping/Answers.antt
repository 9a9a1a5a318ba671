use Rattle.std.proofs.Common.{rules, ◌<◌, ◌≡◌, sym, subst}
use Rattle.desk_core.specs.Words.{word_number}
use Rattle.pq_types.specs.declared.request.Request.TheVariants.{Pop}
use Rattle.announce_board.specs.Asking.{IsAnswerTo}
use Rattle.flat_queue.specs.Limits.{most_posts}
use Rattle.flat_queue.specs.TakeSteps.{PopsOnceBy}
use Rattle.flat_queue.specs.declared.take_steps.Left.TheVariants.{Nothing}
use Rattle.flat_queue.proofs.TakeStepping.{pop_told}
use Rattle.flat_queue.proofs.queue.Queue.step_popping.Goals as goal

pub returns-in-Some-clause-steps : goal.returns-in-Some-clause-steps
returns-in-Some-clause-steps g c =
    let few : c.args.member.now.pen.posts < most_posts c.args.member.now.queue.room = search rules in
    subst (λ r. PopsOnceBy (word_number g.P.Part.wide) (c.args.left ≡ Nothing) c.args.member.now r c.carry_out.new.member) (sym c.popped_by.ensures)
    (pop_told _ (c.args.left ≡ Nothing) c.args.member.now c.carry_out.new.member c.in-Some.answer few c.in-Some.ensures.carries
    (subst (λ q. IsAnswerTo q.room Pop c.in-Some.answer) (sym c.requires.queue) c.in-Some.ensures.answers))
