use Rattle.queue_texts.proofs.Shapes.{one_reading}
use Rattle.queue_texts.proofs.laws.law_lines_are_read_once.Goals as goal

pub returns : goal.returns
returns c = one_reading
