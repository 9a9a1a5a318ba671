-- What a contract says of a machine: at the end of which run it stands, and that a call goes on
-- from there by one event.
use Rattle.std.specs.Prelude.{◌≡◌, ℕ, List, [], ◌∷◌, ◌++◌, Some, Result, Ok, Err}
use Rattle.split_core.specs.Grid.{Grid, Event, run, opening}
use Rattle.split_core.specs.Calls.{seen_of}
use Rattle.split_core.specs.Stored.{EndsAs, started_of, AreBounded}
use Rattle.split_core.specs.declared.machine.Machine.{Machine}
use Rattle.split_core.specs.declared.seen.Seen.{Seen}
use Rattle.split_core.specs.declared.seen.StepError.{StepError}

module _ {A : Type 0} where
  -- The machine stands at the end of the run of these events by comers of these ids: what it stores
  -- is what that grid has.
  abbrev pub Stands : List ℕ → List Event → Machine A → Type 0
  Stands ids events m = EndsAs ids events m.last.items m.doors.items m.walkers.items

  -- how many of its comers have started
  abbrev pub started_in : Machine A → ℕ
  started_in m = started_of m.walkers.items

  -- each of its scans has read at most (k + 1)(k + 2)/2 doors, where k comers have started
  abbrev pub BoundsDoors : Machine A → Type 0
  BoundsDoors m = AreBounded m.walkers.items

  -- From the end of the run of these events the call went on by the one event that it makes there:
  -- the machine stands at the end of the longer run, and what was told is what that event shows.
  pub record GoesOn (ids : List ℕ) (events : List Event) (call : Result Event StepError) (told : Seen)
      (m : Machine A) : Type 0 where
    pub event : Event
    pub made : call ≡ Ok event
    pub shown : seen_of (run events (opening ids)) event ≡ Some told
    pub stands : Stands ids (events ++ event ∷ []) m

  -- wherever the old machine stands, the call by this id went on from there, told this and left the
  -- new one
  abbrev pub CallGoesOn : (Grid → ℕ → Result Event StepError) → ℕ → Machine A → Seen → Machine A → Type 0
  CallGoesOn call id old told new =
      (ids : List ℕ) (events : List Event) → Stands ids events old
      → GoesOn ids events (call (run events (opening ids)) id) told new

  -- wherever the machine stands, the call by this id is refused so
  abbrev pub CallIsRefused : (Grid → ℕ → Result Event StepError) → ℕ → Machine A → StepError → Type 0
  CallIsRefused call id m error =
      (ids : List ℕ) (events : List Event) → Stands ids events m → call (run events (opening ids)) id ≡ Err error
