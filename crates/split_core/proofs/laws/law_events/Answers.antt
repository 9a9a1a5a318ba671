use Rattle.split_core.proofs.Events.{takes_one_step}
use Rattle.split_core.proofs.laws.law_events.Goals as goal

pub returns : goal.returns
returns c s e = takes_one_step s e
