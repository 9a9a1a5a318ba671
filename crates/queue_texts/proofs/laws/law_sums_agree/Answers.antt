use Rattle.queue_texts.proofs.SumsAgree.{sums_agree}
use Rattle.queue_texts.proofs.laws.law_sums_agree.Goals as goal

pub returns : goal.returns
returns c = sums_agree
