-- Why a queue was not closed.
use Rattle.std.specs.Prelude.{◌≡◌, ◌≢◌}
use Rattle.queue_pool.specs.Pool.{Pooled, inside}
use Rattle.queue_pool.specs.declared.pool.StillOpen.{StillOpen}
use Rattle.queue_pool.specs.declared.pool.StillOpen.TheVariants.{Missing, Shared}

module _ {S P : Type 0} where
  -- not all comers of the queue are in the pool; or they are, and there are other shares of it: here is the pool as it was
  abbrev pub IsStillOpen : Pooled → StillOpen S P → Type 0
  IsStillOpen before (Missing back) = (back ≡ before) × (inside before ≢ before.queue.comers)
  IsStillOpen before (Shared back) = (back ≡ before) × (inside before ≡ before.queue.comers)
