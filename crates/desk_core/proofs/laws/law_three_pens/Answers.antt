use Rattle.desk_core.proofs.Worked.{three_pens_run}
use Rattle.desk_core.proofs.laws.law_three_pens.Goals as goal

pub returns : goal.returns
returns c = three_pens_run
