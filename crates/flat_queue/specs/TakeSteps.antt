-- What one step of a take makes of its member.
use Rattle.std.specs.Prelude.{◌≡◌, ℕ, ◌⊎◌, ⊤, Option, Some, None, Result, Ok, Err}
use Rattle.std.specs.declared.time.Instant.{Instant}
use Rattle.pq_types.specs.Item.{Item}
use Rattle.pq_types.specs.Asked.{Answer}
use Rattle.pq_types.specs.declared.answer.Reply.TheVariants.{Pushed, Got, Empty, Least as LeastIs}
use Rattle.pq_types.specs.declared.answer.Answer.TheVariants.{Entered}
use Rattle.pq_types.specs.declared.answer.Answer.TheVariants as answer
use Rattle.flat_queue.specs.Members.{Joined}
use Rattle.flat_queue.specs.OwnRequest.{EntersAtOnceBy}
use Rattle.flat_queue.specs.Turns.{FindsHeldYet}
use Rattle.flat_queue.specs.Looking.{LooksFirstBy, SeesEmptyYetBy}
use Rattle.flat_queue.specs.Taking.{Awaited, PopsInVain, TakesSo, LooksNowBy}
use Rattle.flat_queue.specs.declared.event_count.Wakes.{Wakes}
use Rattle.flat_queue.specs.declared.error.CallError.{CallError}
use Rattle.flat_queue.specs.declared.error.CallError.TheVariants as error
use Rattle.flat_queue.specs.declared.looking.Wanted.TheVariants as wanted
use Rattle.flat_queue.specs.declared.looking.Looked.TheVariants as looked
use Rattle.flat_queue.specs.declared.taking.Awaited.TheVariants as awaited
use Rattle.flat_queue.specs.DueSteps.{DueStage, DueStepped}
use Rattle.flat_queue.specs.declared.due_steps.DueStage.TheVariants as due_stage
use Rattle.flat_queue.specs.declared.due_steps.DueTook.TheVariants as due_took
use Rattle.flat_queue.specs.declared.due_steps.DueStepped.TheVariants as due_stepped
use Rattle.flat_queue.specs.declared.take_steps.TakeStage.{TakeStage}
use Rattle.flat_queue.specs.declared.take_steps.TakeStage.TheVariants as stage
use Rattle.flat_queue.specs.declared.take_steps.Took.{Took as TookOf}
use Rattle.flat_queue.specs.declared.take_steps.Took.TheVariants as took
use Rattle.flat_queue.specs.declared.take_steps.TakeStepped.{TakeStepped as TakeSteppedOf}
use Rattle.flat_queue.specs.declared.take_steps.TakeStepped.TheVariants as stepped

-- what a take came to, and what a step of it came to, of items of any width
abbrev pub Took : Type 0
Took = TookOf Item

abbrev pub TakeStepped : Type 0
TakeStepped = TakeSteppedOf Item

-- The member looked once for any item, found none, and made no request, and that is no end to its take, which is woken so. Here,
-- and in all that follows, items have so many words.
abbrev pub SeesNoneBy : ℕ → Wakes → Joined → Joined → Type 0
SeesNoneBy words wakes before after = SeesEmptyYetBy words wakes wanted.Anything before after

-- the member looked once for any item, and made no request: it found the queue shut, and no item
abbrev pub SeesEndBy : ℕ → Joined → Joined → Type 0
SeesEndBy words before after = LooksFirstBy words wanted.Anything before looked.Over after

-- The member tried once to carry a pop of its own out. The pop took the item out, or was refused; or it found none, and the
-- take is to announce itself; or the member found the lock held, and tries again, or ends where the deadline has come.
abbrev pub PopsOnceBy : ℕ → (late : Type 0) → Joined → TakeStepped → Joined → Type 0
PopsOnceBy words late before (stepped.Ends (took.Taken number x)) after = TakesSo (EntersAtOnceBy words) before (Ok (number, x)) after
PopsOnceBy words late before (stepped.Ends (took.Refused error)) after = TakesSo (EntersAtOnceBy words) before (Err error) after
PopsOnceBy words late before (stepped.Ends (took.Late line)) after = ⊥
PopsOnceBy words late before (stepped.Ends took.Held) after = late × FindsHeldYet before after
PopsOnceBy words late before (stepped.Ends (took.Over line)) after = ⊥
PopsOnceBy words late before (stepped.Goes stage.Pops) after = FindsHeldYet before after
PopsOnceBy words late before (stepped.Goes (stage.Announces line)) after = PopsInVain before line after
PopsOnceBy words late before (stepped.Goes (stage.Looks line look)) after = ⊥
PopsOnceBy words late before (stepped.Goes (stage.Sleeps line seen)) after = ⊥

-- The member looked once for any item, in a take whose pop found none on this line. The look took an item out, or was refused;
-- or it found none, and the take sleeps, or ends as the deadline has come; or it found the queue shut, and none, and the take ends
-- by that; or the member found the lock held, and is to look again, or ends as the deadline has come.
abbrev pub LooksOneTimeBy : ℕ → Wakes → (late : Type 0) → (line : ℕ) → Joined → TakeStepped → Joined → Type 0
LooksOneTimeBy words wakes late line before (stepped.Ends (took.Taken number x)) after =
    TakesSo (LooksNowBy words wanted.Anything) before (Ok (number, x)) after
LooksOneTimeBy words wakes late line before (stepped.Ends (took.Refused error)) after =
    TakesSo (LooksNowBy words wanted.Anything) before (Err error) after
LooksOneTimeBy words wakes late line before (stepped.Ends (took.Late number)) after =
    (number ≡ line) × late × (FindsHeldYet before after ⊎ SeesNoneBy words wakes before after)
LooksOneTimeBy words wakes late line before (stepped.Ends took.Held) after = ⊥
LooksOneTimeBy words wakes late line before (stepped.Ends (took.Over number)) after = (number ≡ line) × SeesEndBy words before after
LooksOneTimeBy words wakes late line before (stepped.Goes stage.Pops) after = ⊥
LooksOneTimeBy words wakes late line before (stepped.Goes (stage.Announces number)) after = ⊥
LooksOneTimeBy words wakes late line before (stepped.Goes (stage.Looks number look)) after =
    (number ≡ line) × FindsHeldYet before after
LooksOneTimeBy words wakes late line before (stepped.Goes (stage.Sleeps number seen)) after = (number ≡ line) × SeesNoneBy words wakes before after

-- What a step at this stage made of its member, where `late` says that the deadline has come: it tried to pop once, or looked
-- once; or it did nothing, as the deadline had come before its first look.
abbrev pub TakeStepsBy : ℕ → Wakes → (late : Type 0) → TakeStage → Joined → TakeStepped → Joined → Type 0
TakeStepsBy words wakes late stage.Pops before result after = PopsOnceBy words late before result after
TakeStepsBy words wakes late (stage.Announces line) before result after =
    LooksOneTimeBy words wakes late line before result after ⊎ ((result ≡ stepped.Ends (took.Late line)) × late × (after ≡ before))
TakeStepsBy words wakes late (stage.Looks line look) before result after = LooksOneTimeBy words wakes late line before result after
TakeStepsBy words wakes late (stage.Sleeps line seen) before result after = LooksOneTimeBy words wakes late line before result after

-- A take that is to look, and knows the count of events by which it was announced, looks on by the same, or sleeps while the
-- count is that one.
abbrev pub TakeKeepsLook : TakeStage → TakeStepped → Type 0
TakeKeepsLook (stage.Looks line look) (stepped.Goes (stage.Looks number next)) = next ≡ look
TakeKeepsLook (stage.Looks line look) (stepped.Goes (stage.Sleeps number seen)) = seen ≡ look.seen
TakeKeepsLook was result = ⊤

-- what a step comes to whose pop was so answered
abbrev pub popped_by : Answer → TakeStepped
popped_by (Entered number Pushed) = stepped.Goes (stage.Announces number)
popped_by (Entered number (Got x)) = stepped.Ends (took.Taken number x)
popped_by (Entered number (LeastIs x)) = stepped.Goes (stage.Announces number)
popped_by (Entered number Empty) = stepped.Goes (stage.Announces number)
popped_by answer.BookFull = stepped.Ends (took.Refused error.BookFull)
popped_by answer.NoMemory = stepped.Ends (took.Refused error.NoMemory)
popped_by (answer.Refused why) = stepped.Ends (took.Refused (error.Refused why))

-- how far a take has come that looks as a call does for what is due, behind a pop that found no item on this line
abbrev pub looking_on : ℕ → DueStage → TakeStage
looking_on line due_stage.Announces = stage.Announces line
looking_on line (due_stage.Looks look) = stage.Looks line look
looking_on line (due_stage.Sleeps seen first) = stage.Sleeps line seen

-- what a step of a take comes to whose look came to this, behind a pop that found no item on this line
abbrev pub looked_on : ℕ → DueStepped → TakeStepped
looked_on line (due_stepped.Ends (due_took.Taken number x)) = stepped.Ends (took.Taken number x)
looked_on line (due_stepped.Ends (due_took.Refused error)) = stepped.Ends (took.Refused error)
looked_on line (due_stepped.Ends (due_took.Later x)) = stepped.Ends (took.Late line)
looked_on line (due_stepped.Ends due_took.Nothing) = stepped.Ends (took.Late line)
looked_on line (due_stepped.Ends due_took.Held) = stepped.Ends (took.Late line)
looked_on line (due_stepped.Ends due_took.Over) = stepped.Ends (took.Over line)
looked_on line (due_stepped.Goes next) = stepped.Goes (looking_on line next)

-- what a take comes back with that came to this, where the clock told this time last, or none
abbrev pub awaited_by : Took → Option Instant → Result (Option Awaited) CallError
awaited_by (took.Taken number x) told = Ok (Some (awaited.Taken number x))
awaited_by (took.Refused error) told = Err error
awaited_by (took.Late line) (Some now) = Ok (Some (awaited.Late line now))
awaited_by (took.Late line) None = Ok (Some (awaited.NoClock line))
awaited_by took.Held told = Ok (Some (awaited.Held told))
awaited_by (took.Over line) told = Ok None
