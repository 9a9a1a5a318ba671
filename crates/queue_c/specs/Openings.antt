-- What the call for C that opens a queue answers, and what it makes of what its handle holds.
use Rattle.std.specs.Prelude.{◌≡◌, ◌≢◌, ℕ, ◌↔◌, [], ◌∷◌, Option, Some, None, IsSome}
use Rattle.queue_c.specs.Calls.{IsOneOf, Opening}
use Rattle.flat_queue.specs.Lengths.{IsLength}
use Rattle.flat_queue.specs.declared.length.Length.{Length}
use Rattle.queue_c.specs.Threads.{ids_of, AreThreads}
use Rattle.queue_pool.specs.Pool.{Pooled}
use Rattle.queue_c.specs.declared.codes.TheConstants.{NO_HANDLE, NO_MEMORY, OK, OUT_OF_RANGE}
use Rattle.queue_c.specs.declared.contents.Contents.{Contents}
use Rattle.queue_c.specs.declared.contents.Contents.TheVariants.{Queue}

-- so many threads may share a queue, and its journal may have this length
abbrev pub AreInRange : ℕ → Option Length → Type 0
AreInRange threads None = ⊥
AreInRange threads (Some length) = AreThreads threads × IsLength length

-- the handle holds a queue that was opened for so many threads, with a journal of this length and this bound, if it has one
abbrev pub HoldsOpened : ℕ → Option Length → Option ℕ → Option Contents → Type 0
HoldsOpened threads None bound held = ⊥
HoldsOpened threads (Some length) bound held =
    (o : Pooled) × (held ≡ Some (Queue o)) × Opening (ids_of threads) length bound o

-- an opening for so many threads, with a journal of this length, if there is one, and with this bound, if it is to have one
pub record OpenAnswers (threads : ℕ) (length : Option Length) (bound : Option ℕ) (before : Option Contents) (code : ℕ)
    (after : Option Contents) : Type 0 where
  pub opened : code ≡ OK → HoldsOpened threads length bound after
  pub was_empty : code ≡ OK → before ≡ None
  pub in_range : code ≡ OK → AreInRange threads length
  pub refused : code ≢ OK → after ≡ before
  pub codes : IsOneOf code (OK ∷ OUT_OF_RANGE ∷ NO_MEMORY ∷ NO_HANDLE ∷ [])
  pub not_empty : (code ≡ NO_HANDLE) ↔ IsSome before
  pub range : (code ≡ OUT_OF_RANGE) ↔ ((before ≡ None) × (¬ (AreInRange threads length)))
  pub memory : code ≡ NO_MEMORY → AreInRange threads length
