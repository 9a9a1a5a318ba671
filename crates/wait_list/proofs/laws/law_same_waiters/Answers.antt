use Rattle.wait_list.proofs.OnlyWakings.{only_trans}
use Rattle.wait_list.proofs.Changes.{only_changed}
use Rattle.wait_list.proofs.laws.law_same_waiters.Goals as goal

pub returns : goal.returns
returns c = record { changes = only_changed; goes_on = only_trans }
