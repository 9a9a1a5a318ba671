-- Who closed the door of a place, and who read it closed, in the course of a run.
use Rattle.std.specs.Prelude.{◌≡◌, ℕ, List, ◌∷◌, ◌++◌}
use Rattle.split_core.specs.Places.{at}
use Rattle.split_core.specs.Grid.{Event, Goes, Has, run, opening}
use Rattle.split_core.specs.Splitter.{Turned}
use Rattle.split_core.specs.declared.model.Comer.{Comer}
use Rattle.split_core.specs.declared.model.Next.{Next}
use Rattle.split_core.specs.declared.model.Next.TheVariants.{ReadDoor, CloseDoor, Stopped}
use Rattle.split_core.specs.declared.model.Turn.TheVariants.{Right, Down}

-- At some moment of the run of these events the comer at `who` took this step at the place p. The
-- grid was then the end of the events before.
pub record Took (ids : List ℕ) (events : List Event) (who : ℕ) (step : Next) (p : ℕ) : Type 0 where
  pub before : List Event
  pub later : List Event
  pub comer : Comer
  pub moment : events ≡ before ++ Goes who ∷ later
  pub stood : Has (run before (opening ids)) who comer
  pub next : comer.next ≡ step
  pub place : at comer.turns ≡ p

-- it closed the door of p itself
abbrev pub ClosedItself : List ℕ → List Event → ℕ → ℕ → Type 0
ClosedItself ids events who p = Took ids events who CloseDoor p

-- it read the door of p when that was closed
abbrev pub ReadClosed : List ℕ → List Event → ℕ → ℕ → Type 0
ReadClosed ids events who p = (t : Took ids events who ReadDoor p) × ((run t.before (opening ids)).door p ≡ 1)

-- each comer read the door closed where it turned right, and closed it itself where it turned down
-- or has stopped
pub record DoorsMet (ids : List ℕ) (events : List Event) : Type 0 where
  pub right : (a : ℕ) (x : Comer) → Has (run events (opening ids)) a x → (p : ℕ) → Turned Right p x.turns
      → ReadClosed ids events a p
  pub down : (a : ℕ) (x : Comer) → Has (run events (opening ids)) a x → (p : ℕ) → Turned Down p x.turns
      → ClosedItself ids events a p
  pub stop : (a : ℕ) (x : Comer) → Has (run events (opening ids)) a x → x.next ≡ Stopped → ClosedItself ids events a (at x.turns)
