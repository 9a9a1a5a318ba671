use Rattle.queue_texts.proofs.Items.{alone_read, pair_read}
use Rattle.queue_texts.proofs.item_text.read_item.Goals as goal

pub returns-in-Some : goal.returns-in-Some
returns-in-Some g c = pair_read g.P.Part.wide _ _ _ _ c.in-Some.ensures.some.0 c.in-Some.ensures.some.1 c.read_pair.ensures

pub returns-in-None : goal.returns-in-None
returns-in-None g c = alone_read g.P.Part.wide _ _ c.in-None.ensures.none c.read_pair-in-None.ensures
