use Rattle.queue_texts.proofs.Exact.{lawful_is_not_refused}
use Rattle.queue_texts.proofs.laws.law_lawful_is_not_refused.Goals as goal

pub returns : goal.returns
returns c = lawful_is_not_refused c.law_lines_are_read_once.ensures
