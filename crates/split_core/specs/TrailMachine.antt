-- What a contract says of a machine with trail scans: after which acts it stands, and that a call
-- goes on from there by one act.
use Rattle.std.specs.Prelude.{◌≡◌, ℕ, List, [], ◌∷◌, ◌++◌, length, slice_get, Some, Result, Ok, Err}
use Rattle.split_core.specs.Machine.{Stands}
use Rattle.split_core.specs.Trails.{Trailed, Act, events_in, trail_opening, does_all}
use Rattle.split_core.specs.TrailCalls.{act_seen}
use Rattle.split_core.specs.Tracker.{Tracks}
use Rattle.split_core.specs.declared.tracker.Tracker.{Tracker}
use Rattle.split_core.specs.declared.trail_machine.TrailMachine.{TrailMachine}
use Rattle.split_core.specs.declared.seen.Seen.{Seen}
use Rattle.split_core.specs.declared.seen.StepError.{StepError}

module _ {A : Type 0} where
  -- The machine stands after these acts by comers of these ids: its grid at the end of the events
  -- among them, and what is stored of each comer's trail scan is that scan.
  pub record StandsAfter (ids : List ℕ) (acts : List Act) (m : TrailMachine A) : Type 0 where
    pub grid : Stands ids (events_in acts) m.grid
    pub trails : (who : ℕ) (t : Tracker) → slice_get m.trackers.items who ≡ Some t
        → Tracks (length ids) t ((does_all acts (trail_opening ids)).trail who)

  -- From the end of these acts the call went on by the one act that it makes there: the machine
  -- stands after that one too, and what was told is what it shows.
  pub record ActsOn (ids : List ℕ) (acts : List Act) (call : Result Act StepError) (told : Seen)
      (m : TrailMachine A) : Type 0 where
    pub act : Act
    pub made : call ≡ Ok act
    pub shown : act_seen (does_all acts (trail_opening ids)) act ≡ Some told
    pub stands : StandsAfter ids (acts ++ act ∷ []) m

  -- wherever the old machine stands, the call by this id went on from there, told this and left the
  -- new one
  abbrev pub CallActsOn : (Trailed → ℕ → Result Act StepError) → ℕ → TrailMachine A → Seen → TrailMachine A → Type 0
  CallActsOn call id old told new =
      (ids : List ℕ) (acts : List Act) → StandsAfter ids acts old
      → ActsOn ids acts (call (does_all acts (trail_opening ids)) id) told new

  -- wherever the machine stands, the call by this id is refused so
  abbrev pub ActIsRefused : (Trailed → ℕ → Result Act StepError) → ℕ → TrailMachine A → StepError → Type 0
  ActIsRefused call id m error =
      (ids : List ℕ) (acts : List Act) → StandsAfter ids acts m → call (does_all acts (trail_opening ids)) id ≡ Err error
