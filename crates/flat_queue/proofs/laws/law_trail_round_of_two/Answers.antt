use Rattle.flat_queue.proofs.Worked.{trail_round_of_two}
use Rattle.flat_queue.proofs.laws.law_trail_round_of_two.Goals as goal

pub returns : goal.returns
returns c = trail_round_of_two
