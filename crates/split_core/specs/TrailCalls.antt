-- What an act shows, and which act a call of the machine with trail scans makes or why it is refused.
use Rattle.std.specs.Prelude.{ℕ, ◌==◌, Bool, true, false, if◌then◌else◌, List, [], ◌∷◌}
use Rattle.std.specs.Prelude.{length, slice_get, Option, Some, None, Result, Ok, Err}
use Rattle.split_core.specs.Places.{place}
use Rattle.split_core.specs.Comer.{is_stopped}
use Rattle.split_core.specs.Grid.{Grid, Event}
use Rattle.split_core.specs.Calls.{seen_of, position_of, comer_with, step_call, scan_call}
use Rattle.split_core.specs.Trail.{Spot, Trail, trail_start, led_to}
use Rattle.split_core.specs.Trails.{Trailed, Act, Takes, BeginsTrail, FollowsTrail}
use Rattle.split_core.specs.declared.model.Comer.{Comer}
use Rattle.split_core.specs.declared.seen.Seen.{Seen}
use Rattle.split_core.specs.declared.seen.Seen.TheVariants as seen
use Rattle.split_core.specs.declared.seen.StepError.{StepError}
use Rattle.split_core.specs.declared.seen.StepError.TheVariants.{UnknownId, NotStopped}

-- no place is left to be read
abbrev pub is_done : List Spot → Bool
is_done [] = true
is_done (p ∷ places) = false

-- the trail scan to which the next door belongs: this one, or a new one where it is over
abbrev pub trail_now : Trail → Trail
trail_now z = if is_done z.ahead then trail_start else z

-- what the read of the first of these doors shows, which are those ahead of a trail scan of a grid of
-- so many comers; nothing where none is ahead
abbrev pub ahead_seen : ℕ → (ℕ → ℕ) → List Spot → Option Seen
ahead_seen comers door [] = None
ahead_seen comers door (p ∷ rest) =
    Some
    (seen.Door (place p.row p.column) (door (place p.row p.column) == 1)
    (is_done (led_to comers p (door (place p.row p.column)) rest)))

-- what the read of the first of these doors shows in this grid
abbrev pub trail_seen : Grid → List Spot → Option Seen
trail_seen s ahead = ahead_seen (length s.comers) s.door ahead

-- only a comer that has stopped begins a trail scan
abbrev pub begun_seen : Option Comer → Grid → Option Seen
begun_seen None s = None
begun_seen (Some c) s = if is_stopped c.next then trail_seen s trail_start.ahead else None

-- what this act shows; nothing where its comer may not do it now
abbrev pub act_seen : Trailed → Act → Option Seen
act_seen s (Takes e) = seen_of s.grid e
act_seen s (BeginsTrail who) = begun_seen (slice_get s.grid.comers who) s.grid
act_seen s (FollowsTrail who) = trail_seen s.grid (s.trail who).ahead

-- the call takes this event, or is refused
abbrev pub taken : Result Event StepError → Result Act StepError
taken (Ok e) = Ok (Takes e)
taken (Err why) = Err why

-- the calls of the grid alone, as acts
abbrev pub step_act : Trailed → ℕ → Result Act StepError
step_act s id = taken (step_call s.grid id)

abbrev pub scan_act : Trailed → ℕ → Result Act StepError
scan_act s id = taken (scan_call s.grid id)

abbrev pub home_for : ℕ → Option Comer → Result ℕ StepError
home_for who None = Err UnknownId
home_for who (Some c) = if is_stopped c.next then Ok who else Err NotStopped

-- the position of the comer with this id, which has stopped; why there is none
abbrev pub home_call : Grid → ℕ → Result ℕ StepError
home_call s id = home_for (position_of id s.comers) (comer_with s id)

abbrev pub trail_for : Trailed → Result ℕ StepError → Result Act StepError
trail_for s (Err why) = Err why
trail_for s (Ok who) = Ok (if is_done (s.trail who).ahead then BeginsTrail who else FollowsTrail who)

-- a call of `trail_step` reads the next door of that comer's trail scan, or begins one where none is
-- under way; it is refused where no comer has the id, or where that comer has not stopped
abbrev pub trail_act : Trailed → ℕ → Result Act StepError
trail_act s id = trail_for s (home_call s.grid id)
