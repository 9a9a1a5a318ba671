use Rattle.desk_core.proofs.Guards.{asking_needs, leading_needs}
use Rattle.desk_core.proofs.laws.law_guards_are_needed.Goals as goal

pub returns : goal.returns
returns c = record { asking = asking_needs; leading = leading_needs }
