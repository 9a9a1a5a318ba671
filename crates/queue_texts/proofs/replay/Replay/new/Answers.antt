use Rattle.std.proofs.Common.{refl}
use Rattle.queue_texts.proofs.Replays.{replayed_none}
use Rattle.queue_texts.proofs.replay.Replay.new.Goals as goal

pub invariant_of-result : goal.invariant_of-result
invariant_of-result g c = replayed_none _ _ _ refl c.in-Ok.ensures.ok.0 c.in-Ok.ensures.ok.1 c.in-Ok.ensures.plain (c.in_ok-last.ensures.items_if_clones_equal (λ y h. h))
