use Rattle.std.proofs.Common.{refl}
use Rattle.queue_texts.specs.ItemText.{item_text}
use Rattle.queue_texts.proofs.Items.{text_spells}
use Rattle.queue_texts.proofs.laws.law_items_are_read_back.Goals as goal

pub returns : goal.returns
returns c wide x small = (item_text x, refl, text_spells wide x small, small)
