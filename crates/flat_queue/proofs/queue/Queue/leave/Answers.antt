use Rattle.std.proofs.Common.{rules}
use Rattle.flat_queue.proofs.queue.Queue.leave.Goals as goal

pub returns-clause-left : goal.returns-clause-left
returns-clause-left g c =
    λ _. record { book = c.in-Some.lead.book; led = c.lead.new.member; won = c.in-Some.ensures.wins; stays = c.in-Some.ensures.stays; release = search rules }
