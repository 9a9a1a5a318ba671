-- What one step of a call for what is due makes of its member.
use Rattle.std.specs.Prelude.{◌≡◌, ℕ, ◌<◌, ◌^◌, ⊤, Option, Some, None, Result, Ok, Err}
use Rattle.std.specs.declared.time.Instant.{Instant}
use Rattle.pq_types.specs.Item.{Item}
use Rattle.flat_queue.specs.Members.{Joined}
use Rattle.flat_queue.specs.Looking.{IsWanted, LooksFirstBy, SeesEmptyYetBy}
use Rattle.flat_queue.specs.Taking.{LooksNowBy, TakesSo}
use Rattle.flat_queue.specs.Turns.{FindsHeldYet}
use Rattle.flat_queue.specs.Due.{Due}
use Rattle.flat_queue.specs.declared.event_count.Wakes.{Wakes}
use Rattle.flat_queue.specs.declared.error.CallError.{CallError}
use Rattle.flat_queue.specs.declared.looking.Wanted.{Wanted}
use Rattle.flat_queue.specs.declared.looking.Looked.TheVariants as looked
use Rattle.flat_queue.specs.declared.due.Due.TheVariants as due
use Rattle.flat_queue.specs.declared.take_steps.Left.{Left}
use Rattle.flat_queue.specs.declared.take_steps.Left.TheVariants as left
use Rattle.flat_queue.specs.declared.due_steps.DueStage.{DueStage as DueStageOf}
use Rattle.flat_queue.specs.declared.due_steps.DueStage.TheVariants as stage
use Rattle.flat_queue.specs.declared.due_steps.DueTook.{DueTook as DueTookOf}
use Rattle.flat_queue.specs.declared.due_steps.DueTook.TheVariants as took
use Rattle.flat_queue.specs.declared.due_steps.DueStepped.{DueStepped as DueSteppedOf}
use Rattle.flat_queue.specs.declared.due_steps.DueStepped.TheVariants as stepped

-- how far such a call has come, what it came to, and what a step of it came to, of items of any width
abbrev pub DueStage : Type 0
DueStage = DueStageOf Item

abbrev pub DueTook : Type 0
DueTook = DueTookOf Item

abbrev pub DueStepped : Type 0
DueStepped = DueSteppedOf Item

-- The member looked once for an item that is wanted. The look took one out, or was refused. Or it left all items there: then the
-- call sleeps, or it ends where the deadline has come. Or it found the queue shut, and no item, which ends a call that heeds the
-- end. Or the member found the lock held, and is to look again, or ends where the deadline has come. Items have so many words.
abbrev pub SightsOnceBy : ℕ → Wakes → (late : Type 0) → Wanted → Joined → DueStepped → Joined → Type 0
SightsOnceBy words wakes late wants before (stepped.Ends (took.Taken number x)) after =
    TakesSo (LooksNowBy words wants) before (Ok (number, x)) after × IsWanted wants x.priority
SightsOnceBy words wakes late wants before (stepped.Ends (took.Refused error)) after =
    TakesSo (LooksNowBy words wants) before (Err error) after
SightsOnceBy words wakes late wants before (stepped.Ends (took.Later x)) after = late × LooksFirstBy words wants before (looked.Stays x) after
SightsOnceBy words wakes late wants before (stepped.Ends took.Nothing) after = late × SeesEmptyYetBy words wakes wants before after
SightsOnceBy words wakes late wants before (stepped.Ends took.Held) after = late × FindsHeldYet before after
SightsOnceBy words wakes late wants before (stepped.Ends took.Over) after = LooksFirstBy words wants before looked.Over after
SightsOnceBy words wakes late wants before (stepped.Goes stage.Announces) after = ⊥
SightsOnceBy words wakes late wants before (stepped.Goes (stage.Looks look)) after = FindsHeldYet before after
SightsOnceBy words wakes late wants before (stepped.Goes (stage.Sleeps seen (Some x))) after =
    LooksFirstBy words wants before (looked.Stays x) after
SightsOnceBy words wakes late wants before (stepped.Goes (stage.Sleeps seen None)) after =
    SeesEmptyYetBy words wakes wants before after

-- A call that is to look, and knows the count of events by which it was announced, looks on by the same, or sleeps while the
-- count is that one.
abbrev pub KeepsLook : DueStage → DueStepped → Type 0
KeepsLook (stage.Looks look) (stepped.Goes (stage.Looks next)) = next ≡ look
KeepsLook (stage.Looks look) (stepped.Goes (stage.Sleeps seen first)) = seen ≡ look.seen
KeepsLook was result = ⊤

-- what a step comes to whose look found no item, where that is no end, and so much time is left: the call sleeps, or ends late
abbrev pub empty_step : Left → (seen : ℕ) → DueStepped
empty_step left.Nothing seen = stepped.Ends took.Nothing
empty_step left.Enough seen = stepped.Goes (stage.Sleeps seen None)

-- what a call comes back with that came to this, where the clock told this time before its last step
abbrev pub due_by : DueTook → Instant → Result (Option Due) CallError
due_by (took.Taken number x) now = Ok (Some (due.Taken number x now))
due_by (took.Refused error) now = Err error
due_by (took.Later x) now = Ok (Some (due.Later x now))
due_by took.Nothing now = Ok (Some (due.Nothing now))
due_by took.Held now = Ok (Some (due.Held now))
due_by took.Over now = Ok None

-- the priority of an item that it leaves there is one of a machine word
abbrev pub IsShort : DueTook → Type 0
IsShort (took.Taken number x) = ⊤
IsShort (took.Refused error) = ⊤
IsShort (took.Later x) = x.priority < 2 ^ 64
IsShort took.Nothing = ⊤
IsShort took.Held = ⊤
IsShort took.Over = ⊤

-- the stage is one of a look that goes on
abbrev pub IsLook : DueStage → Type 0
IsLook stage.Announces = ⊥
IsLook (stage.Looks look) = ⊤
IsLook (stage.Sleeps seen first) = ⊥
