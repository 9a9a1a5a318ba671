use Rattle.std.proofs.Common.{◌≡◌, ℕ, ◌+◌, ◌<◌, length, get_or}
use Rattle.split_core.specs.declared.places.TheConstants.{MAX_COMERS}
use Rattle.queue_c.proofs.opening.all_ids.Given as goal

abbrev pub invariant-loop-k : goal.invariant-loop-k
invariant-loop-k l = (length l.ids ≡ MAX_COMERS) × ((k : ℕ) → k < l.k → get_or l.ids k 0 ≡ k + 1)
