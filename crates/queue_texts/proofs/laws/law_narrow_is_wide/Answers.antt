use Rattle.queue_texts.proofs.Widened.{narrow_is_wide}
use Rattle.queue_texts.proofs.laws.law_narrow_is_wide.Goals as goal

pub returns : goal.returns
returns c = narrow_is_wide
