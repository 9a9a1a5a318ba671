use Rattle.queue_texts.proofs.Written.{written_is_spelled}
use Rattle.queue_texts.proofs.laws.law_written_is_spelled.Goals as goal

pub returns : goal.returns
returns c = written_is_spelled
