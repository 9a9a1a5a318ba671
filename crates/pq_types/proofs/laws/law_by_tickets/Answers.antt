use Rattle.pq_types.proofs.Vain.{vain_are_told, vain_change_nothing}
use Rattle.pq_types.proofs.laws.law_by_tickets.Goals as goal

pub returns : goal.returns
returns c = record { told = vain_are_told; unchanged = vain_change_nothing }
