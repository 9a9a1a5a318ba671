use Rattle.pq_types.proofs.History.{without_tickets}
use Rattle.pq_types.proofs.laws.law_without_tickets.Goals as goal

pub returns : goal.returns
returns c = without_tickets
