use Rattle.queue_texts.proofs.Prefixes.{prefix_is_lawful}
use Rattle.queue_texts.proofs.laws.law_prefix_is_lawful.Goals as goal

pub returns : goal.returns
returns c = prefix_is_lawful
