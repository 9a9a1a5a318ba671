use Rattle.queue_texts.specs.WalkText.{orders, blank}
use Rattle.queue_texts.proofs.OneText.{one_text}
use Rattle.queue_texts.proofs.SingleWalk.{single_walk}
use Rattle.queue_texts.proofs.laws.law_one_text_of_a_walk.Goals as goal

pub returns : goal.returns
returns c kind input unread unread' ended ended' text text' writes writes' played played' = one_text (orders kind) (single_walk kind) blank input unread unread' ended ended' text text' writes writes' played played'
