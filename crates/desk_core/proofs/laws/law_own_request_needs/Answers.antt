use Rattle.desk_core.proofs.Needs.{own_request_needs}
use Rattle.desk_core.proofs.laws.law_own_request_needs.Goals as goal

pub returns : goal.returns
returns c = own_request_needs
