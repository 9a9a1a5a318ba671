use Rattle.pq_types.proofs.Shut.{answers_agree, entries_agree, plain_refuse_nothing}
use Rattle.pq_types.proofs.laws.law_one_answer.Goals as goal

pub returns : goal.returns
returns c = record { refusals = answers_agree; entries = entries_agree; plain = plain_refuse_nothing }
