-- The threads that a queue is opened for.
use Rattle.std.specs.Prelude.{ℕ, ◌+◌, ◌<◌, ◌≤◌, List, map}
use Rattle.std.specs.List.{range_with_len}
use Rattle.split_core.specs.declared.places.TheConstants.{MAX_COMERS}

-- the ids of so many threads: 1 to their number
abbrev pub ids_of : ℕ → List ℕ
ids_of threads = map (λ k. k + 1) (range_with_len 0 threads)

-- a queue may be opened for so many threads
abbrev pub AreThreads : ℕ → Type 0
AreThreads threads = (0 < threads) × (threads ≤ MAX_COMERS)
