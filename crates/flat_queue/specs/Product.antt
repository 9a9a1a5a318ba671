-- The product machine: comers walk the grid for their places, and post and lead at the desk once
-- they have stopped.
use Rattle.std.specs.Prelude.{◌≡◌, ℕ, List, [], ◌∷◌, length}
use Rattle.split_core.specs.Places.{place, at}
use Rattle.split_core.specs.Grid.{Grid, Event as GridEvent, Has as IsComer, happens, opening as grid_opening}
use Rattle.split_core.specs.declared.model.Comer.{Comer}
use Rattle.split_core.specs.declared.model.Next.TheVariants.{Stopped}
use Rattle.pq_types.specs.History.{Limits}
use Rattle.desk_core.specs.Desk.{Desk, Has as IsPen, opening as desk_opening}
use Rattle.desk_core.specs.Steps.{Event as DeskEvent, actor, Step as DeskStep}
use Rattle.desk_core.specs.declared.model.PenState.{PenState}

-- the grid, and the desk with a pen for each of its places
pub record Product : Type 0 where
  pub grid : Grid
  pub desk : Desk

-- What may happen: an event of the grid; or an event of the desk, by a pen for the comer at this
-- position.
pub data Event : Type 0 where
  OnGrid : (event : GridEvent) → Event
  AtDesk : (who : ℕ) (event : DeskEvent) → Event

-- the comer at this position has stopped at the place of the pen at this seat
abbrev pub Owns : Product → ℕ → ℕ → Type 0
Owns s who seat =
    (c : Comer) × (p : PenState) × IsComer s.grid who c × (c.next ≡ Stopped) × IsPen s.desk.views seat p × (at c.turns ≡ p.place)

-- The event leads from the first state to the second. A pen acts only after a comer has stopped at
-- its place, and then for that comer alone.
abbrev pub Step : Product → Event → Product → Type 0
Step s (OnGrid e) s' = s' ≡ record s { grid = happens s.grid e }
Step s (AtDesk who e) s' = Owns s who (actor e) × ((d : Desk) × DeskStep s.desk e d × (s' ≡ record s { desk = d }))

-- these events, the first of the list first, lead from the first state to the second: any
-- interleaving of a run of the grid and a run of the desk
abbrev pub Run : Product → List Event → Product → Type 0
Run s [] s' = s' ≡ s
Run s (e ∷ es) s' = (m : Product) × Step s e m × Run m es s'

-- all comers stand before their first step, and the desk of as many places as the grid has a Book with an
-- empty journal and these limits
abbrev pub opening : List ℕ → Limits → Product
opening ids limits = record { grid = grid_opening ids; desk = desk_opening (place 0 (length ids)) limits }

-- the events of the grid, in their order
abbrev pub grid_events : List Event → List GridEvent
grid_events [] = []
grid_events (OnGrid e ∷ es) = e ∷ grid_events es
grid_events (AtDesk who e ∷ es) = grid_events es

-- the events of the desk, in their order
abbrev pub desk_events : List Event → List DeskEvent
desk_events [] = []
desk_events (OnGrid e ∷ es) = desk_events es
desk_events (AtDesk who e ∷ es) = e ∷ desk_events es
