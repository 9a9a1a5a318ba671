use Rattle.desk_core.proofs.Shut.{shut_ends_pushes}
use Rattle.desk_core.proofs.laws.law_shut_ends_pushes.Goals as goal

pub returns : goal.returns
returns c = shut_ends_pushes
