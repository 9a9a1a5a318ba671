use Rattle.desk_core.proofs.WorkedHistories.{overtaking_run, together_run, coming_out_run, stale_is_refused}
use Rattle.desk_core.proofs.WorkedLooks.{looks_between}
use Rattle.desk_core.proofs.laws.law_histories_in_full.Goals as goal

pub returns : goal.returns
returns c = record { overtaking = overtaking_run; together = together_run; coming_out = coming_out_run; looking = looks_between; stale = stale_is_refused }
