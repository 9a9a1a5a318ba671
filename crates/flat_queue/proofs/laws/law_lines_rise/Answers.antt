use Rattle.flat_queue.proofs.LineOrder.{lines_rise}
use Rattle.flat_queue.proofs.laws.law_lines_rise.Goals as goal

pub returns : goal.returns
returns c = lines_rise
