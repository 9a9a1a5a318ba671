use Rattle.wait_list.proofs.OnlyWakings.{only_settled}
use Rattle.wait_list.proofs.Settling.{is_settled}
use Rattle.wait_list.proofs.Least.{fewest, quiet}
use Rattle.wait_list.proofs.FirstCome.{wakes_the_first}
use Rattle.wait_list.proofs.laws.law_settled.Goals as goal

pub returns : goal.returns
returns c = record { settled = is_settled; only_wakes = only_settled; fewest = fewest; quiet = quiet; first_come = wakes_the_first }
