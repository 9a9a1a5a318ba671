use Rattle.std.proofs.Common.{rules, ◌<◌, subst, sym}
use Rattle.desk_core.specs.Words.{word_number}
use Rattle.flat_queue.specs.Limits.{most_posts}
use Rattle.flat_queue.specs.Tickets.{UsesTicketBy}
use Rattle.flat_queue.proofs.TicketUses.{used}
use Rattle.flat_queue.proofs.queue.Queue.use_ticket.Goals as goal

pub returns-clause-uses : goal.returns-clause-uses
returns-clause-uses g c =
    let few : c.args.member.now.pen.posts < most_posts c.args.member.now.queue.room = search rules in
    subst (λ r. UsesTicketBy (word_number g.P.Part.wide) c.args.ticketed c.args.member.now r c.wait_and_use_ticket.new.member) (sym c.end_by_ticket.ensures)
    (used _ c.args.ticketed c.args.member.now c.wait_and_use_ticket.new.member c.wait_and_use_ticket.result few c.wait_and_use_ticket.ensures.uses)
