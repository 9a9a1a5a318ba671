-- What an event of the grid shows, and which event a call of the machine makes or why it is
-- refused.
use Rattle.std.specs.Prelude.{ℕ, ◌+◌, ◌==◌, if◌then◌else◌, List, [], ◌∷◌, length, slice_get, Option, Some, None, Result, Ok, Err}
use Rattle.split_core.specs.Places.{place, at}
use Rattle.split_core.specs.Scan.{fresh, scanned, is_idle}
use Rattle.split_core.specs.Comer.{is_stopped}
use Rattle.split_core.specs.Grid.{Grid, Event, Goes, Begins, Scans, actor}
use Rattle.split_core.specs.declared.model.Comer.{Comer}
use Rattle.split_core.specs.declared.model.Scan.{Scan}
use Rattle.split_core.specs.declared.model.Next.{Next}
use Rattle.split_core.specs.declared.model.Next.TheVariants.{WriteLast, ReadDoor, CloseDoor, ReadLast, Stopped}
use Rattle.split_core.specs.declared.model.Turn.TheVariants.{Right, Down}
use Rattle.split_core.specs.declared.seen.Seen.{Seen}
use Rattle.split_core.specs.declared.seen.Seen.TheVariants as seen
use Rattle.split_core.specs.declared.seen.StepError.{StepError}
use Rattle.split_core.specs.declared.seen.StepError.TheVariants.{UnknownId, AlreadyStopped, NotStopped}

-- what the next step of a comer on its way shows
abbrev pub step_seen : Next → Grid → Comer → Option Seen
step_seen WriteLast s c = Some (seen.Wrote (at c.turns))
step_seen ReadDoor s c =
    Some (if s.door (at c.turns) == 1 then seen.Right (at c.turns) (at (Right ∷ c.turns)) else seen.SawOpen (at c.turns))
step_seen CloseDoor s c = Some (seen.Closed (at c.turns))
step_seen ReadLast s c =
    Some (if s.last (at c.turns) == c.id
    then seen.Stopped (at c.turns)
    else seen.Down (at c.turns) (s.last (at c.turns)) (at (Down ∷ c.turns)))
step_seen Stopped s c = None

-- what the read of the next door of the scan z shows
abbrev pub door_seen : Scan → Grid → Seen
door_seen z s =
    seen.Door (place z.row z.column) (s.door (place z.row z.column) == 1)
    (scanned (length s.comers) z (s.door (place z.row z.column))).over

abbrev pub seen_by : Event → Grid → Option Comer → Option Seen
seen_by e s None = None
seen_by (Goes who) s (Some c) = step_seen c.next s c
seen_by (Begins who) s (Some c) = if is_stopped c.next then Some (door_seen fresh s) else None
seen_by (Scans who) s (Some c) = if is_idle c.scan then None else Some (door_seen c.scan s)

-- what this event shows in this grid; nothing where its comer may not take it now
abbrev pub seen_of : Grid → Event → Option Seen
seen_of s e = seen_by e s (slice_get s.comers (actor e))

-- the position of the first comer with this id, or the number of the comers where none has it
abbrev pub position_of : ℕ → List Comer → ℕ
position_of id [] = 0
position_of id (c ∷ cs) = if c.id == id then 0 else position_of id cs + 1

-- the comer with this id
abbrev pub comer_with : Grid → ℕ → Option Comer
comer_with s id = slice_get s.comers (position_of id s.comers)

abbrev pub step_for : ℕ → Option Comer → Result Event StepError
step_for who None = Err UnknownId
step_for who (Some c) = if is_stopped c.next then Err AlreadyStopped else Ok (Goes who)

-- a call of `step` makes the next step of the comer with this id; it is refused where no comer has
-- the id, or where that comer has stopped
abbrev pub step_call : Grid → ℕ → Result Event StepError
step_call s id = step_for (position_of id s.comers) (comer_with s id)

abbrev pub scan_for : ℕ → Option Comer → Result Event StepError
scan_for who None = Err UnknownId
scan_for who (Some c) = if is_stopped c.next then Ok (if is_idle c.scan then Begins who else Scans who) else Err NotStopped

-- a call of `scan_step` reads the next door of that comer's scan, or begins one where none is under
-- way; it is refused where no comer has the id, or where that comer has not stopped
abbrev pub scan_call : Grid → ℕ → Result Event StepError
scan_call s id = scan_for (position_of id s.comers) (comer_with s id)

abbrev pub place_for : Option Comer → Option ℕ
place_for None = None
place_for (Some c) = if is_stopped c.next then Some (at c.turns) else None

-- the place where the comer with this id has stopped
abbrev pub stop_of : Grid → ℕ → Option ℕ
stop_of s id = place_for (comer_with s id)

-- the number of each refusal
abbrev pub step_code : StepError → ℕ
step_code UnknownId = 23
step_code AlreadyStopped = 24
step_code NotStopped = 25
