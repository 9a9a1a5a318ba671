use Rattle.pq_types.proofs.History.{content_items, reply_proper, entries_items, reply_by_proper}
use Rattle.pq_types.proofs.laws.law_items_stay_in_range.Goals as goal

pub returns : goal.returns
returns c = record { content = content_items; reply = reply_proper; entries = entries_items; replies = reply_by_proper }
