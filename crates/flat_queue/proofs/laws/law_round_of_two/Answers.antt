use Rattle.flat_queue.proofs.Worked.{round_of_two}
use Rattle.flat_queue.proofs.laws.law_round_of_two.Goals as goal

pub returns : goal.returns
returns c = round_of_two
