use Rattle.desk_core.proofs.CallLines.{calls_are_lines, numbers_rise}
use Rattle.desk_core.proofs.laws.law_calls_are_lines.Goals as goal

pub returns : goal.returns
returns c = record { lines = calls_are_lines; rise = numbers_rise }
