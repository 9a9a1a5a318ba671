-- What a call makes of its member that takes the first item out once it is due, and waits for that.
use Rattle.std.specs.Prelude.{◌≡◌, ⊤, ℕ, suc, ◌+◌, ◌*◌, ◌≤◌, Option, Some, None, Result, Ok, Err}
use Rattle.std.specs.Time.{instant_nanos}
use Rattle.std.specs.declared.time.Instant.{Instant}
use Rattle.pq_types.specs.Item.{Item}
use Rattle.flat_queue.specs.Members.{Joined}
use Rattle.flat_queue.specs.Turns.{Misses}
use Rattle.flat_queue.specs.Looking.{Looked, IsEmptyYet, MissesThenLooksBy}
use Rattle.flat_queue.specs.Taking.{Repeats, LooksForBy, TakesSo}
use Rattle.flat_queue.specs.declared.event_count.Wakes.{Wakes}
use Rattle.flat_queue.specs.declared.error.CallError.{CallError}
use Rattle.flat_queue.specs.declared.looking.Wanted.{Wanted}
use Rattle.flat_queue.specs.declared.looking.Looked.TheVariants as looked
use Rattle.flat_queue.specs.declared.times.Times.{Times}
use Rattle.flat_queue.specs.declared.due.Due.{Due as DueOf}
use Rattle.flat_queue.specs.declared.due.Due.TheVariants as due

-- what such a call comes back with, of items of any width
abbrev pub Due : Type 0
Due = DueOf Item

-- when items of this priority are due, in nanoseconds since the clock's start
abbrev pub due_nanos : Times → ℕ → ℕ
due_nanos times priority = instant_nanos times.start + priority * times.unit

-- an item of this priority is due at this time
abbrev pub IsDueAt : Times → Instant → ℕ → Type 0
IsDueAt times now priority = due_nanos times priority ≤ instant_nanos now

-- there is a deadline, and it has come at this time
abbrev pub HasCome : Option Instant → Instant → Type 0
HasCome None now = ⊥
HasCome (Some deadline) now = instant_nanos deadline ≤ instant_nanos now

-- the look left all items there, and that is no end to a call which is woken so
abbrev pub IsLeftYet : Wakes → Looked → Type 0
IsLeftYet wakes (looked.Taken number x) = ⊥
IsLeftYet wakes (looked.Stays x) = ⊤
IsLeftYet wakes looked.Nothing = IsEmptyYet wakes looked.Nothing
IsLeftYet wakes looked.Over = IsEmptyYet wakes looked.Over
IsLeftYet wakes looked.BookFull = ⊥
IsLeftYet wakes (looked.Refused why) = ⊥

-- so the member looked, and made no request; here, and in all that follows, items have so many words
abbrev pub LeavesAllBy : ℕ → Wakes → Joined → Joined → Type 0
LeavesAllBy words wakes before after =
    (wants : Wanted) × (told : Looked) × IsLeftYet wakes told × MissesThenLooksBy words wants before told after

-- the member made no request: it tried the lock, once or more often, and found it held each time
abbrev pub FindsHeldOn : Joined → Joined → Type 0
FindsHeldOn before after = (again : ℕ) × Misses (suc again) before after

-- the member looked, and there was no item, which is no end to its call
abbrev pub SeesEmptyBy : ℕ → Wakes → Joined → Joined → Type 0
SeesEmptyBy words wakes before after =
    (wants : Wanted) × (told : Looked) × IsEmptyYet wakes told × MissesThenLooksBy words wants before told after

-- the member looked, and found the queue shut, and no item
abbrev pub SeesOverBy : ℕ → Joined → Joined → Type 0
SeesOverBy words before after = (wants : Wanted) × MissesThenLooksBy words wants before looked.Over after

-- What a look for what is due came to. It took this item out, on this line, which was due at a time that the clock told before;
-- or it was refused. Or it made no request, and the deadline has come at such a time: the first item, this one, was not due then,
-- or there was none; or it found the lock held, and did not look. Or the clock can't be read, and it did not look.
abbrev pub EndsDueBy : ℕ → Wakes → (may_tell : Option Instant → Type 0) → Times → Option Instant → Joined → Result Due CallError → Joined → Type 0
EndsDueBy words wakes may_tell times deadline before (Ok (due.Taken number x now)) after =
    (wants : Wanted) × TakesSo (LooksForBy words wants) before (Ok (number, x)) after
    × may_tell (Some now) × IsDueAt times now x.priority
EndsDueBy words wakes may_tell times deadline before (Ok (due.Later x now)) after =
    (wants : Wanted) × MissesThenLooksBy words wants before (looked.Stays x) after
    × may_tell (Some now) × HasCome deadline now × ¬ (IsDueAt times now x.priority)
EndsDueBy words wakes may_tell times deadline before (Ok (due.Nothing now)) after =
    SeesEmptyBy words wakes before after × may_tell (Some now) × HasCome deadline now
EndsDueBy words wakes may_tell times deadline before (Ok (due.Held now)) after =
    FindsHeldOn before after × may_tell (Some now) × HasCome deadline now
EndsDueBy words wakes may_tell times deadline before (Ok due.NoClock) after = (after ≡ before) × may_tell None
EndsDueBy words wakes may_tell times deadline before (Err error) after =
    (wants : Wanted) × TakesSo (LooksForBy words wants) before (Err error) after

-- The member looked some times, and each look left all items there; and then one look came to this.
abbrev pub TakesDueBy : ℕ → Wakes → (may_tell : Option Instant → Type 0) → Times → Option Instant → Joined → Result Due CallError → Joined → Type 0
TakesDueBy words wakes may_tell times deadline before result after =
    (looks : ℕ) × (last : Joined) × Repeats (LeavesAllBy words wakes) looks before last
    × EndsDueBy words wakes may_tell times deadline last result after

-- The same of a call that may heed the end of its queue; or it tells the end, and its last look found the queue shut, and no item, as
-- the journal is which it knows now. No look before found that, where the call heeds the end.
abbrev pub TakesDueOrEndsBy : ℕ → Wakes → (may_tell : Option Instant → Type 0) → Times → Option Instant → Joined → Result (Option Due) CallError → Joined → Type 0
TakesDueOrEndsBy words wakes may_tell times deadline before (Ok (Some told)) after = TakesDueBy words wakes may_tell times deadline before (Ok told) after
TakesDueOrEndsBy words wakes may_tell times deadline before (Ok None) after =
    (looks : ℕ) × (last : Joined) × Repeats (LeavesAllBy words wakes) looks before last × SeesOverBy words last after
TakesDueOrEndsBy words wakes may_tell times deadline before (Err error) after = TakesDueBy words wakes may_tell times deadline before (Err error) after
