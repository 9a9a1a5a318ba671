-- The grid of splitters as a machine of single reads and writes: its state, its events and its runs
-- (the splitter of Moir and Anderson 1995, after Lamport's fast mutual exclusion).
use Rattle.std.specs.Prelude.{◌≡◌, ℕ, ◌==◌, if◌then◌else◌, List, [], ◌∷◌, map, length}
use Rattle.std.specs.Prelude.{count_by, slice_get, slice_set, Option, Some, None}
use Rattle.split_core.specs.Places.{place, at}
use Rattle.split_core.specs.Scan.{fresh, is_idle}
use Rattle.split_core.specs.Comer.{comer_of, wrote, saw_door, closed, saw_last, scans, has_started}
use Rattle.split_core.specs.declared.model.Comer.{Comer}
use Rattle.split_core.specs.declared.model.Scan.{Scan}
use Rattle.split_core.specs.declared.model.Next.{Next}
use Rattle.split_core.specs.declared.model.Next.TheVariants.{WriteLast, ReadDoor, CloseDoor, ReadLast, Stopped}

-- LAST and DOOR of each place (a closed door is 1), and the comers
pub record Grid : Type 0 where
  pub last : ℕ → ℕ
  pub door : ℕ → ℕ
  pub comers : List Comer

-- the words after this one was written at place i
abbrev pub put : (ℕ → ℕ) → ℕ → ℕ → ℕ → ℕ
put words i word j = if j == i then word else words j

-- all words are 0, and all comers are at place 0 before their first step
abbrev pub opening : List ℕ → Grid
opening ids = record { last = λ _. 0; door = λ _. 0; comers = map comer_of ids }

-- the comer at this position of the list
abbrev pub Has : Grid → ℕ → Comer → Type 0
Has s who c = slice_get s.comers who ≡ Some c

-- that comer is now this one
abbrev pub with_comer : Grid → ℕ → Comer → Grid
with_comer s who c = record s { comers = slice_set s.comers who c }

-- one step of the comer c, which stands at `who` and whose next step is the first argument
abbrev pub goes : Next → Grid → ℕ → Comer → Grid
goes WriteLast s who c = record { last = put s.last (at c.turns) c.id; door = s.door; comers = slice_set s.comers who (wrote c) }
goes ReadDoor s who c = with_comer s who (saw_door c (s.door (at c.turns)))
goes CloseDoor s who c = record { last = s.last; door = put s.door (at c.turns) 1; comers = slice_set s.comers who (closed c) }
goes ReadLast s who c = with_comer s who (saw_last c (s.last (at c.turns)))
goes Stopped s who c = s

-- the next door of the scan z is read
abbrev pub reads : Scan → Grid → ℕ → Comer → Grid
reads z s who c = with_comer s who (scans (length s.comers) z c (s.door (place z.row z.column)))

-- a comer that has stopped begins a scan: it reads the door of place 0
abbrev pub begins : Next → Grid → ℕ → Comer → Grid
begins Stopped s who c = reads fresh s who c
begins WriteLast s who c = s
begins ReadDoor s who c = s
begins CloseDoor s who c = s
begins ReadLast s who c = s

-- a comer goes on with a scan that it has begun and that is not over
abbrev pub goes_on : Grid → ℕ → Comer → Grid
goes_on s who c = if is_idle c.scan then s else reads c.scan s who c

-- What may happen to the comer at a position: its next step on the way, the first door of a new
-- scan, the next door of the scan under way. A comer that takes no more steps has halted, and the
-- run goes on.
pub data Event : Type 0 where
  Goes : (who : ℕ) → Event
  Begins : (who : ℕ) → Event
  Scans : (who : ℕ) → Event

-- the comer whose event it is
abbrev pub actor : Event → ℕ
actor (Goes who) = who
actor (Begins who) = who
actor (Scans who) = who

abbrev pub acts : Event → Grid → Option Comer → Grid
acts e s None = s
acts (Goes who) s (Some c) = goes c.next s who c
acts (Begins who) s (Some c) = begins c.next s who c
acts (Scans who) s (Some c) = goes_on s who c

-- The grid after this event. One that the comer may not take now changes nothing, so all lists of
-- events range over the same runs as the lists of allowed ones.
abbrev pub happens : Grid → Event → Grid
happens s e = acts e s (slice_get s.comers (actor e))

-- the grid after these events, the first of the list first
abbrev pub run : List Event → Grid → Grid
run [] s = s
run (e ∷ es) s = run es (happens s e)

-- no two positions of the list have the same id
abbrev pub Different : List ℕ → Type 0
Different ids = (a b : ℕ) (id : ℕ) → slice_get ids a ≡ Some id → slice_get ids b ≡ Some id → a ≡ b

-- how many comers have started
abbrev pub started : Grid → ℕ
started s = count_by has_started s.comers
