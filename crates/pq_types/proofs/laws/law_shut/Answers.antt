use Rattle.pq_types.proofs.Shut.{shut_more, heeds_more, shut_leaves, nothing_behind}
use Rattle.pq_types.proofs.laws.law_shut.Goals as goal

pub returns : goal.returns
returns c = record { more = shut_more; heeds = heeds_more; unchanged = shut_leaves; behind = nothing_behind }
