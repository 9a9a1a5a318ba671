use Rattle.std.proofs.Common.{rules, ◌<◌, subst, sym}
use Rattle.desk_core.specs.Words.{word_number}
use Rattle.flat_queue.specs.Limits.{most_posts}
use Rattle.flat_queue.specs.UpTo.{PopsUpToBy}
use Rattle.flat_queue.proofs.UpTos.{popped_up_to}
use Rattle.flat_queue.proofs.queue.Queue.pop_up_to.Goals as goal

pub returns : goal.returns
returns g c =
    let few : c.args.member.now.pen.posts < most_posts c.args.member.now.queue.room = search rules in
    subst (λ r. PopsUpToBy (word_number g.P.Part.wide) (g.P.Part.number c.args.priority) c.args.member.now r c.wait_and_carry_out.new.member) (sym c.end_up_to.ensures)
    (popped_up_to _ (g.P.Part.number c.args.priority) c.args.member.now c.wait_and_carry_out.new.member c.wait_and_carry_out.result few c.wait_and_carry_out.ensures)
