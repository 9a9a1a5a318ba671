use Rattle.std.proofs.Common.{append_assoc}
use Rattle.queue_texts.proofs.events.append_seen.Goals as goal

pub returns-in-Right-clause-text : goal.returns-in-Right-clause-text
returns-in-Right-clause-text c = rw (c.append_place-in-Right-2.ensures.text, c.append_place-in-Right.ensures.text, c.in-Right.is) (simp append_assoc)
