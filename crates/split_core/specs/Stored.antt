-- What running code keeps of a grid: words in lists, and of each comer what its steps need. What
-- agrees with which grid, and how a stored step goes.
use Rattle.std.specs.Prelude.{◌≡◌, ℕ, ◌+◌, ◌<◌, ◌≤◌, Bool, true, false, ◌==◌, ◌&&◌, ◌||◌}
use Rattle.std.specs.Prelude.{not, ◌-◌, nat_lt, count_by, if◌then◌else◌, List, map}
use Rattle.std.specs.Prelude.{length, slice_get, slice_set, slice_index_or, Some}
use Rattle.split_core.specs.Places.{row, column, place}
use Rattle.split_core.specs.Scan.{fresh, reaches, scanned}
use Rattle.split_core.specs.Comer.{has_begun}
use Rattle.split_core.specs.Grid.{Grid, Event, Has, run, opening, Different}
use Rattle.split_core.specs.Collect.{most_doors}
use Rattle.split_core.specs.declared.places.TheConstants.{MAX_COMERS}
use Rattle.split_core.specs.declared.model.Comer.{Comer}
use Rattle.split_core.specs.declared.model.Next.{Next}
use Rattle.split_core.specs.declared.model.Next.TheVariants.{WriteLast, ReadDoor, CloseDoor, ReadLast, Stopped}
use Rattle.split_core.specs.declared.model.Scan.{Scan}
use Rattle.split_core.specs.declared.cursor.Cursor.{Cursor}
use Rattle.split_core.specs.declared.walker.Walker.{Walker}
use Rattle.split_core.specs.declared.seen.Seen.{Seen}
use Rattle.split_core.specs.declared.seen.Seen.TheVariants as seen

-- what is stored of a scan: of the places found only whether one is on the present diagonal
abbrev pub cursor_of : Scan → Cursor
cursor_of z = record { row = z.row; column = z.column; hit = reaches (z.row + z.column) z.found; doors = z.doors; over = z.over }

-- what is stored of a comer: its place without its turns, and neither `seen` nor the count of its
-- steps
abbrev pub walker_of : Comer → Walker
walker_of c = record { id = c.id; next = c.next; row = row c.turns; column = column c.turns; cursor = cursor_of c.scan }

-- these words and walkers are those of the grid, as far as its places go
pub record Agrees (last : List ℕ) (doors : List Bool) (walkers : List Walker) (s : Grid) : Type 0 where
  pub comers : walkers ≡ map walker_of s.comers
  pub last_room : length last ≡ place 0 (length walkers)
  pub door_room : length doors ≡ place 0 (length walkers)
  pub lasts : (p : ℕ) → p < length last → slice_index_or last p 0 ≡ s.last p
  pub closed : (p : ℕ) → p < length doors → slice_index_or doors p false ≡ (s.door p == 1)

-- these are the words and walkers at the end of the run of these events, of at most 64 comers
pub record EndsAs (ids : List ℕ) (events : List Event) (last : List ℕ) (doors : List Bool) (walkers : List Walker) : Type 0 where
  pub differ : Different ids
  pub few : length ids ≤ MAX_COMERS
  pub agrees : Agrees last doors walkers (run events (opening ids))

-- some run ends so
abbrev pub SomeRun : List ℕ → List Bool → List Walker → Type 0
SomeRun last doors walkers = (ids : List ℕ) × (events : List Event) × EndsAs ids events last doors walkers

-- what each step makes of the stored comer: it has written LAST; read DOOR, closed or open; closed
-- DOOR; read this word in LAST
abbrev pub walker_wrote : Walker → Walker
walker_wrote r = record r { next = ReadDoor }

abbrev pub walker_saw_door : Walker → Bool → Walker
walker_saw_door r shut = if shut then record r { next = WriteLast; column = r.column + 1 } else record r { next = CloseDoor }

abbrev pub walker_closed : Walker → Walker
walker_closed r = record r { next = ReadLast }

abbrev pub walker_saw_last : Walker → ℕ → Walker
walker_saw_last r word = if word == r.id then record r { next = Stopped } else record r { next = WriteLast; row = r.row + 1 }

-- the place where the walker stands
abbrev pub here : Walker → ℕ
here r = place r.row r.column

-- what the read of DOOR shows, closed or open
abbrev pub seen_at_door : Walker → Bool → Seen
seen_at_door r shut = if shut then seen.Right (here r) (place r.row (r.column + 1)) else seen.SawOpen (here r)

-- what the read of this word in LAST shows
abbrev pub seen_at_last : Walker → ℕ → Seen
seen_at_last r word = if word == r.id then seen.Stopped (here r) else seen.Down (here r) word (place (r.row + 1) r.column)

-- One step of a walker on the stored words: for each next step what becomes of the walker, of LAST
-- and of DOOR, and what is shown. One that has stopped takes none.
abbrev pub TakesStep : Next → Walker → List ℕ → List Bool → Walker → List ℕ → List Bool → Seen → Type 0
TakesStep WriteLast r last doors r' last' doors' w =
    (r' ≡ walker_wrote r) × (last' ≡ slice_set last (here r) r.id) × (doors' ≡ doors) × (w ≡ seen.Wrote (here r))
TakesStep ReadDoor r last doors r' last' doors' w =
    (r' ≡ walker_saw_door r (slice_index_or doors (here r) false))
    × (last' ≡ last) × (doors' ≡ doors)
    × (w ≡ seen_at_door r (slice_index_or doors (here r) false))
TakesStep CloseDoor r last doors r' last' doors' w =
    (r' ≡ walker_closed r) × (last' ≡ last) × (doors' ≡ slice_set doors (here r) true) × (w ≡ seen.Closed (here r))
TakesStep ReadLast r last doors r' last' doors' w =
    (r' ≡ walker_saw_last r (slice_index_or last (here r) 0))
    × (last' ≡ last) × (doors' ≡ doors)
    × (w ≡ seen_at_last r (slice_index_or last (here r) 0))
TakesStep Stopped r last doors r' last' doors' w = ⊥

-- the stored scan of a grid of so many comers after it read a door, closed or open
abbrev pub cursor_after : ℕ → Cursor → Bool → Cursor
cursor_after comers z shut =
    record {
      row = if z.column == 0 then 0 else z.row + 1;
      column = if z.column == 0 then z.row + 1 else z.column - 1;
      hit = if z.column == 0 then false else (z.hit || shut);
      doors = z.doors + 1;
      over = (z.column == 0) && (not (z.hit || shut) || ((z.row + 1) == comers));
    }

-- The scan of each comer, or a new one, goes on in the stored form as it does in the grid, whatever
-- the word read: what is forgotten of the places found is not missed.
pub record CursorsFollow (n : ℕ) (s : Grid) : Type 0 where
  pub next : (a : ℕ) (x : Comer) (word : ℕ) → Has s a x → x.scan.over ≡ false
      → cursor_after n (cursor_of x.scan) (word == 1) ≡ cursor_of (scanned n x.scan word)
  pub first : (word : ℕ) → cursor_after n (cursor_of fresh) (word == 1) ≡ cursor_of (scanned n fresh word)

-- no scan is under way
abbrev pub is_idle_cursor : Cursor → Bool
is_idle_cursor z = (z.doors == 0) || z.over

-- before the first door
abbrev pub fresh_cursor : Cursor
fresh_cursor = record { row = 0; column = 0; hit = false; doors = 0; over = false }

-- the scan to which the next door belongs: the one under way, or a new one
abbrev pub cursor_now : Cursor → Cursor
cursor_now z = if is_idle_cursor z then fresh_cursor else z

-- it has written LAST of place 0
abbrev pub is_started : Walker → Bool
is_started r = has_begun r.next || nat_lt 0 (r.row + r.column)

abbrev pub started_of : List Walker → ℕ
started_of walkers = count_by is_started walkers

-- each scan has read at most (k + 1)(k + 2)/2 doors, where k walkers have started
abbrev pub AreBounded : List Walker → Type 0
AreBounded walkers =
    (who : ℕ) (r : Walker) → slice_get walkers who ≡ Some r → r.cursor.doors ≤ most_doors (started_of walkers)
