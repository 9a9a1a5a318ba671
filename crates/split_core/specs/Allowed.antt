-- When a comer may take an event, and what an event makes of the comers.
use Rattle.std.specs.Prelude.{◌≡◌, ◌≢◌, ◌↔◌, ℕ, ◌+◌, ◌<◌, false, IsSome, slice_get}
use Rattle.split_core.specs.Grid.{Grid, Event, Goes, Begins, Scans, Has, actor, happens}
use Rattle.split_core.specs.Calls.{seen_of}
use Rattle.split_core.specs.declared.model.Comer.{Comer}
use Rattle.split_core.specs.declared.model.Scan.{Scan}
use Rattle.split_core.specs.declared.model.Next.TheVariants.{Stopped}

-- a scan is under way: it has read a door, and is not over
pub record IsUnderWay (z : Scan) : Type 0 where
  pub begun : 0 < z.doors
  pub open_yet : z.over ≡ false

-- what a comer may do now: go on its way unless it has stopped, begin a scan once it has stopped,
-- go on with a scan that is under way
abbrev pub May : Event → Comer → Type 0
May (Goes who) c = c.next ≢ Stopped
May (Begins who) c = c.next ≡ Stopped
May (Scans who) c = IsUnderWay c.scan

-- a comer stands at the event's position, and may take it
abbrev pub IsAllowed : Grid → Event → Type 0
IsAllowed s e = (c : Comer) × Has s (actor e) c × May e c

-- What an event makes of a grid. One that isn't allowed changes nothing and shows nothing; one that
-- is allowed shows something, is one step of its own comer, and leaves the other comers as they
-- were.
pub record TakesOneStep (s : Grid) (e : Event) : Type 0 where
  pub idle : ¬ IsAllowed s e → happens s e ≡ s
  pub shown : IsSome (seen_of s e) ↔ IsAllowed s e
  pub step : (c : Comer) → Has s (actor e) c → May e c
      → (c' : Comer) × Has (happens s e) (actor e) c' × (c'.id ≡ c.id) × (c'.steps ≡ c.steps + 1)
  pub others : (a : ℕ) → a ≢ actor e → slice_get (happens s e).comers a ≡ slice_get s.comers a
