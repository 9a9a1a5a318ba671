use Rattle.flat_queue.proofs.TimeOrder.{members_follow_time}
use Rattle.flat_queue.proofs.laws.law_calls_follow_time.Goals as goal

pub returns : goal.returns
returns c = members_follow_time c.law_testimonies.ensures.follow
