use Rattle.split_core.proofs.InGrid.{law_numbered}
use Rattle.split_core.proofs.laws.law_places.Goals as goal

pub returns : goal.returns
returns c row column = law_numbered row column
