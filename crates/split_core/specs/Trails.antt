-- Runs of the grid in which comers also make trail scans, and what those find and read.
use Rattle.std.specs.Prelude.{◌≡◌, ◌≢◌, ℕ, zero, suc, ◌+◌, ◌*◌, ◌≤◌, ◌<◌, true, ◌==◌}
use Rattle.std.specs.Prelude.{if◌then◌else◌, ◌⊎◌, List, [], ◌∷◌, ◌++◌, length, slice_get}
use Rattle.std.specs.Prelude.{Option, Some, None, Contains}
use Rattle.split_core.specs.Places.{at, place}
use Rattle.split_core.specs.Trail.{Spot, Trail, trail_start, lists, follows}
use Rattle.split_core.specs.Grid.{Grid, Event, Goes, Has, happens, opening, started}
use Rattle.split_core.specs.Splitter.{Left}
use Rattle.split_core.specs.Collect.{most_doors}
use Rattle.split_core.specs.declared.model.Comer.{Comer}
use Rattle.split_core.specs.declared.model.Next.{Next}
use Rattle.split_core.specs.declared.model.Next.TheVariants.{WriteLast, ReadDoor, CloseDoor, ReadLast, Stopped}

-- the grid, and of the comer at each position its trail scan and each place that any of its trail
-- scans has found closed
pub record Trailed : Type 0 where
  pub grid : Grid
  pub trail : ℕ → Trail
  pub known : ℕ → List ℕ

-- no trail scan was begun
abbrev pub trail_opening : List ℕ → Trailed
trail_opening ids = record { grid = opening ids; trail = λ _. record { ahead = []; found = []; doors = 0 }; known = λ _. [] }

-- What may happen: an event of the grid, the first door of a new trail scan, the next door of the
-- one under way.
pub data Act : Type 0 where
  Takes : (e : Event) → Act
  BeginsTrail : (who : ℕ) → Act
  FollowsTrail : (who : ℕ) → Act

-- the events of the grid among these acts
abbrev pub events_in : List Act → List Event
events_in [] = []
events_in (Takes e ∷ more) = e ∷ events_in more
events_in (BeginsTrail who ∷ more) = events_in more
events_in (FollowsTrail who ∷ more) = events_in more

-- the comer at `who` reads the next door of the trail z
abbrev pub reads_trail : Trail → Trailed → ℕ → Trailed
reads_trail z s who =
    record {
      grid = s.grid;
      trail = λ j. if j == who then follows (length s.grid.comers) s.grid.door z.ahead z else s.trail j;
      known = λ j. if j == who then s.known who ++ (follows (length s.grid.comers) s.grid.door z.ahead z).found else s.known j;
    }

-- only a comer that has stopped begins a trail scan
abbrev pub begins_trail : Next → Trailed → ℕ → Trailed
begins_trail Stopped s who = reads_trail trail_start s who
begins_trail WriteLast s who = s
begins_trail ReadDoor s who = s
begins_trail CloseDoor s who = s
begins_trail ReadLast s who = s

abbrev pub begun_by : Option Comer → Trailed → ℕ → Trailed
begun_by None s who = s
begun_by (Some c) s who = begins_trail c.next s who

abbrev pub does : Act → Trailed → Trailed
does (Takes e) s = record { grid = happens s.grid e; trail = s.trail; known = s.known }
does (BeginsTrail who) s = begun_by (slice_get s.grid.comers who) s who
does (FollowsTrail who) s = reads_trail (s.trail who) s who

-- the state after these acts, the first of the list first
abbrev pub does_all : List Act → Trailed → Trailed
does_all [] s = s
does_all (a ∷ acts) s = does_all acts (does a s)

-- none of these acts begins a trail scan of this comer
abbrev pub NoTrailBegins : ℕ → List Act → Type 0
NoTrailBegins who [] = Unit {0}
NoTrailBegins who (a ∷ acts) = (a ≢ BeginsTrail who) × NoTrailBegins who acts

-- What the trail scan z is to have found, where the comer x began it in the grid s: each place whose
-- door was closed before its first read, so each where a comer had stopped; each on its own comer's
-- way; each that its scans of diagonals had found closed by then (`x.seen`), and each that any of its
-- trail scans has found closed (`known`).
pub record TrailFindsAll (s : Grid) (x : Comer) (known : List ℕ) (z : Trail) : Type 0 where
  pub closed : (p : ℕ) → s.door p ≡ 1 → Contains z.found p
  pub stops : (a : ℕ) (c : Comer) → Has s a c → c.next ≡ Stopped → Contains z.found (at c.turns)
  pub way : (p : ℕ) → Left p x.turns ⊎ (at x.turns ≡ p) → Contains z.found p
  pub seen : (p : ℕ) → Contains x.seen p ⊎ Contains known p → Contains z.found p

-- every trail scan that the comer `who` began after the first acts, and that is over after the
-- others, has found all that
abbrev pub TrailsWhole : List ℕ → Type 0
TrailsWhole ids =
    (before during : List Act) (who : ℕ) (x : Comer) → NoTrailBegins who during
    → Has (does_all before (trail_opening ids)).grid who x → x.next ≡ Stopped
    → ((does_all during (does (BeginsTrail who) (does_all before (trail_opening ids)))).trail who).ahead ≡ []
    → TrailFindsAll (does_all before (trail_opening ids)).grid x
    ((does_all during (does (BeginsTrail who) (does_all before (trail_opening ids)))).known who)
    ((does_all during (does (BeginsTrail who) (does_all before (trail_opening ids)))).trail who)

-- How many doors a trail scan has read: at most 1 + 2m where it has found m, also before it is over;
-- and at most (k + 1)(k + 2)/2 where k comers have started.
pub record TrailDoors (s : Trailed) : Type 0 where
  pub by_found : (a : ℕ) → (s.trail a).doors + length (s.trail a).ahead ≤ 1 + 2 * length (s.trail a).found
  pub by_started : (a : ℕ) → (s.trail a).doors ≤ most_doors (started s.grid)

-- The doors are read in the order of the place numbers, none of them twice: the next place stands
-- before all others that are still to be read, and behind each that was found closed.
pub record InOrder (z : Trail) : Type 0 where
  pub others : (p : Spot) (rest : List Spot) (r c : ℕ) → z.ahead ≡ p ∷ rest → lists r c rest ≡ true
      → place p.row p.column < place r c
  pub behind : (p : Spot) (rest : List Spot) (q : ℕ) → z.ahead ≡ p ∷ rest → Contains z.found q → q < place p.row p.column

-- Three comers arrive one after another: they turn right at each closed door.
abbrev pub goes_times : ℕ → ℕ → List Act
goes_times who zero = []
goes_times who (suc n) = Takes (Goes who) ∷ goes_times who n

abbrev pub three_in_turn : List Act
three_in_turn = goes_times 0 4 ++ (goes_times 1 6 ++ goes_times 2 8)

-- the comer at `who` makes a trail scan of so many doors
abbrev pub trail_of : ℕ → ℕ → List Act
trail_of who zero = []
trail_of who (suc zero) = BeginsTrail who ∷ []
trail_of who (suc (suc n)) = trail_of who (suc n) ++ FollowsTrail who ∷ []
