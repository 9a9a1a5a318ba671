-- A comer, and what it is after each of its steps, by the word that it read.
use Rattle.std.specs.Prelude.{ℕ, ◌+◌, Bool, true, false, ◌||◌, ◌==◌, if◌then◌else◌, List, [], ◌∷◌}
use Rattle.split_core.specs.Places.{place}
use Rattle.split_core.specs.Scan.{fresh, scanned, with_found}
use Rattle.split_core.specs.declared.model.Comer.{Comer}
use Rattle.split_core.specs.declared.model.Scan.{Scan}
use Rattle.split_core.specs.declared.model.Next.{Next}
use Rattle.split_core.specs.declared.model.Next.TheVariants.{WriteLast, ReadDoor, CloseDoor, ReadLast, Stopped}
use Rattle.split_core.specs.declared.model.Turn.{Turn}
use Rattle.split_core.specs.declared.model.Turn.TheVariants.{Right, Down}

-- a comer of this id before its first step, at place 0
abbrev pub comer_of : ℕ → Comer
comer_of id = record { id = id; next = WriteLast; turns = []; scan = fresh; seen = []; read = 0; steps = 0 }

-- it has written its id into LAST
abbrev pub wrote : Comer → Comer
wrote c = record c { next = ReadDoor; steps = c.steps + 1 }

-- it has read this word and moved to the next splitter by this turn
abbrev pub turned : Turn → Comer → ℕ → Comer
turned turn c word = record c { next = WriteLast; turns = turn ∷ c.turns; read = word; steps = c.steps + 1 }

-- it has read DOOR: closed turns it right
abbrev pub saw_door : Comer → ℕ → Comer
saw_door c word = if word == 1 then turned Right c word else record c { next = CloseDoor; read = word; steps = c.steps + 1 }

-- it has closed DOOR
abbrev pub closed : Comer → Comer
closed c = record c { next = ReadLast; steps = c.steps + 1 }

-- it has read LAST: its own id stops it, another turns it down
abbrev pub saw_last : Comer → ℕ → Comer
saw_last c word = if word == c.id then record c { next = Stopped; read = word; steps = c.steps + 1 } else turned Down c word

-- it has read the next door of the scan z, in a grid of so many comers
abbrev pub scans : ℕ → Scan → Comer → ℕ → Comer
scans comers z c word =
    record c {
      scan = scanned comers z word;
      seen = with_found word (place z.row z.column) c.seen;
      read = word;
      steps = c.steps + 1;
    }

-- it has stopped at its place
abbrev pub is_stopped : Next → Bool
is_stopped WriteLast = false
is_stopped ReadDoor = false
is_stopped CloseDoor = false
is_stopped ReadLast = false
is_stopped Stopped = true

-- it has written LAST of the place where it stands
abbrev pub has_begun : Next → Bool
has_begun WriteLast = false
has_begun ReadDoor = true
has_begun CloseDoor = true
has_begun ReadLast = true
has_begun Stopped = true

abbrev pub is_some_turn : List Turn → Bool
is_some_turn [] = false
is_some_turn (turn ∷ turns) = true

-- a comer has started once it has written LAST of place 0: it stands there and has written, or it
-- has gone on from there
abbrev pub has_started : Comer → Bool
has_started c = has_begun c.next || is_some_turn c.turns
