use Rattle.desk_core.proofs.Beyond.{next_is_unknown, answers_are_beyond}
use Rattle.desk_core.proofs.laws.law_lines_are_beyond.Goals as goal

pub returns : goal.returns
returns c = record { unknown = next_is_unknown; beyond = answers_are_beyond }
