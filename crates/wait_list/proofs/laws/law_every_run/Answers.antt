use Rattle.wait_list.proofs.EveryRun.{every_run, back_in_every_run}
use Rattle.wait_list.proofs.laws.law_every_run.Goals as goal

pub returns : goal.returns
returns c = record { settled = every_run; back = back_in_every_run }
