use Rattle.std.proofs.Common.{rules, ◌<◌, subst, sym}
use Rattle.desk_core.specs.Words.{word_number}
use Rattle.flat_queue.specs.Limits.{most_posts}
use Rattle.flat_queue.specs.Shutting.{ShutsBy}
use Rattle.flat_queue.proofs.Shuttings.{has_shut}
use Rattle.flat_queue.proofs.queue.Queue.shut.Goals as goal

pub returns : goal.returns
returns g c =
    let few : c.args.member.now.pen.posts < most_posts c.args.member.now.queue.room = search rules in
    subst (λ r. ShutsBy (word_number g.P.Part.wide) c.args.member.now r c.wait_and_shut.new.member) (sym c.end_shut.ensures)
    (has_shut _ c.args.member.now c.wait_and_shut.new.member c.wait_and_shut.result few c.wait_and_shut.ensures)
