use Rattle.std.proofs.Common.{refl}
use Rattle.queue_texts.proofs.Entries.{counts_none}
use Rattle.queue_texts.proofs.audit.opened.Goals as goal

pub invariant_of-result : goal.invariant_of-result
invariant_of-result g c = record { counted = counts_none _ _ c.in_ok-replay.ensures refl }
