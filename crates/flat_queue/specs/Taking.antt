-- What a call makes of its member that takes an item out, and waits for one.
use Rattle.std.specs.Prelude.{◌≡◌, ℕ, zero, suc, ◌+◌, ◌≤◌, ◌⊎◌, ⊤, List, [], ◌∷◌, ◌++◌, Option, Some, None, Result, Ok, Err}
use Rattle.std.specs.Time.{instant_nanos}
use Rattle.std.specs.declared.time.Instant.{Instant}
use Rattle.pq_types.specs.Item.{Item}
use Rattle.pq_types.specs.Asked.{Request, Reply}
use Rattle.pq_types.specs.declared.request.Request.TheVariants.{Pop}
use Rattle.pq_types.specs.declared.answer.Reply.TheVariants.{Got, Empty}
use Rattle.desk_core.specs.Calls.{call}
use Rattle.desk_core.specs.declared.model.Call.{Call}
use Rattle.flat_queue.specs.Members.{Joined}
use Rattle.flat_queue.specs.Calling.{IsCalled, MakesCall}
use Rattle.flat_queue.specs.OwnRequest.{EntersAtOnceBy, EntersOrWaitsBy}
use Rattle.flat_queue.specs.Turns.{Misses}
use Rattle.flat_queue.specs.Looking.{Looked, LooksFirstBy, IsEmptyYet, MissesThenLooksBy}
use Rattle.flat_queue.specs.declared.event_count.Wakes.{Wakes}
use Rattle.flat_queue.specs.declared.error.CallError.{CallError}
use Rattle.flat_queue.specs.declared.error.CallError.TheVariants.{BookFull}
use Rattle.flat_queue.specs.declared.error.CallError.TheVariants as error
use Rattle.flat_queue.specs.declared.looking.Wanted.{Wanted}
use Rattle.flat_queue.specs.declared.looking.Wanted.TheVariants as wanted
use Rattle.flat_queue.specs.declared.looking.Looked.TheVariants as looked
use Rattle.flat_queue.specs.declared.taking.Awaited.{Awaited as AwaitedOf}
use Rattle.flat_queue.specs.declared.taking.Awaited.TheVariants as awaited

-- what a take comes back with, of items of any width
abbrev pub Awaited : Type 0
Awaited = AwaitedOf Item

-- the member popped in vain: the journal has this line of it, which says that the queue was empty
abbrev pub PopsInVain : Joined → ℕ → Joined → Type 0
PopsInVain before number after = IsCalled before Pop number Empty after

-- The member looked for any item, found none, and made no request, and that was no end to its call, which is woken so. Here, and
-- in all that follows, items have so many words.
abbrev pub FindsNoneBy : ℕ → Wakes → Joined → Joined → Type 0
FindsNoneBy words wakes before after =
    (told : Looked) × IsEmptyYet wakes told × MissesThenLooksBy words wanted.Anything before told after

-- the member looked for any item, and made no request: it found the queue shut, and no item
abbrev pub FindsEndBy : ℕ → Joined → Joined → Type 0
FindsEndBy words before after = MissesThenLooksBy words wanted.Anything before looked.Over after

-- so many such steps, one after another, and nothing else
abbrev pub Repeats : (Joined → Joined → Type 0) → ℕ → Joined → Joined → Type 0
Repeats Steps zero before after = after ≡ before
Repeats Steps (suc n) before after = (m : Joined) × Repeats Steps n before m × Steps m after

-- what a look comes to as the end of a call, where it does
abbrev pub ended_look : Looked → Option (Result (ℕ × Reply) CallError)
ended_look (looked.Taken number x) = Some (Ok (number, Got x))
ended_look (looked.Stays x) = None
ended_look looked.Nothing = None
ended_look looked.Over = None
ended_look looked.BookFull = Some (Err BookFull)
ended_look (looked.Refused why) = Some (Err (error.Refused why))

-- the member looked once for such an item, which is what the call came to
abbrev pub LooksNowBy : ℕ → Wanted → Joined → Request → Result (ℕ × Reply) CallError → Joined → Type 0
LooksNowBy words wants before request result after =
    (told : Looked) × (ended_look told ≡ Some result) × LooksFirstBy words wants before told after

-- the member found the lock held some times, and then looked for such an item, which is what the call came to
abbrev pub LooksForBy : ℕ → Wanted → Joined → Request → Result (ℕ × Reply) CallError → Joined → Type 0
LooksForBy words wants before request result after =
    (told : Looked) × (ended_look told ≡ Some result) × MissesThenLooksBy words wants before told after

-- a call that took this item out, on this line; or that was refused
abbrev pub TakesSo : (Joined → Request → Result (ℕ × Reply) CallError → Joined → Type 0)
    → Joined → Result (ℕ × Item) CallError → Joined → Type 0
TakesSo Turns before result after = MakesCall Turns (λ told. (told.0, Got told.1)) ⊤ before Pop result after

-- the member found the lock held some times, and then found it free and entered: it posted nothing
abbrev pub TriesUntilFreeBy : ℕ → Joined → Request → Result (ℕ × Reply) CallError → Joined → Type 0
TriesUntilFreeBy words before request result after =
    (tries : ℕ) × (missed : Joined) × Misses tries before missed × EntersAtOnceBy words missed request result after

-- so did a pop
abbrev pub TakesAtOnceBy : ℕ → Joined → Result (ℕ × Item) CallError → Joined → Type 0
TakesAtOnceBy words = TakesSo (EntersOrWaitsBy words)

-- and so a look for any item
abbrev pub TakesByLookBy : ℕ → Joined → Result (ℕ × Item) CallError → Joined → Type 0
TakesByLookBy words = TakesSo (LooksForBy words wanted.Anything)

-- The member popped in vain, once, on this line; then it looked some times, and found none.
pub record TakesNoneBy (words : ℕ) (wakes : Wakes) (before : Joined) (line : ℕ) (after : Joined) : Type 0 where
  pub popped : Joined
  pub in_vain : PopsInVain before line popped
  pub looks : ℕ
  pub found_none : Repeats (FindsNoneBy words wakes) looks popped after

-- the same, and then it found the lock held some times
abbrev pub TakesNoneYetBy : ℕ → Wakes → Joined → ℕ → Joined → Type 0
TakesNoneYetBy words wakes before line after =
    (last : Joined) × TakesNoneBy words wakes before line last × ((tries : ℕ) × Misses tries last after)

-- The member's pop, by such turns, took the item out, on the line that is told, or was refused, and this is why; or it took none
-- so far, and then its look did so.
abbrev pub TakesOneSoBy : ℕ → Wakes → (Joined → Request → Result (ℕ × Reply) CallError → Joined → Type 0)
    → Joined → Result (ℕ × Item) CallError → Joined → Type 0
TakesOneSoBy words wakes Turns before result after =
    TakesSo Turns before result after
    ⊎ ((line : ℕ) × (last : Joined) × TakesNoneBy words wakes before line last × TakesByLookBy words last result after)

-- the same, where its pop entered at once, or waited
abbrev pub TakesOneBy : ℕ → Wakes → Joined → Result (ℕ × Item) CallError → Joined → Type 0
TakesOneBy words wakes = TakesOneSoBy words wakes (EntersOrWaitsBy words)

-- a clock that may tell such times, or none, told this one, which is not before the deadline
abbrev pub IsToldLate : (may_tell : Option Instant → Type 0) → Instant → Instant → Type 0
IsToldLate may_tell deadline now = may_tell (Some now) × (instant_nanos deadline ≤ instant_nanos now)

-- such a clock told so, or told that it can't be read
abbrev pub MayEnd : (may_tell : Option Instant → Type 0) → Instant → Option Instant → Type 0
MayEnd may_tell deadline (Some now) = IsToldLate may_tell deadline now
MayEnd may_tell deadline None = may_tell None

-- What the looks of a take come to behind its pop, which found none on this line, where the clock may tell this as the deadline:
-- the last one took an item, or was refused; or it found none, and the queue shut; or the take ends late, behind a look,
-- or where it found the lock held since.
abbrev pub LooksUntilBy : ℕ → (may_end : Option Instant → Type 0) → ℕ → Joined → Result (Option Awaited) CallError → Joined → Type 0
LooksUntilBy words may_end line before (Ok None) after = FindsEndBy words before after
LooksUntilBy words may_end line before (Ok (Some (awaited.Taken number x))) after = TakesByLookBy words before (Ok (number, x)) after
LooksUntilBy words may_end line before (Ok (Some (awaited.Late number now))) after =
    (number ≡ line) × may_end (Some now) × ((tries : ℕ) × Misses tries before after)
LooksUntilBy words may_end line before (Ok (Some (awaited.NoClock number))) after =
    (number ≡ line) × may_end None × ((tries : ℕ) × Misses tries before after)
LooksUntilBy words may_end line before (Ok (Some (awaited.Held told))) after = ⊥
LooksUntilBy words may_end line before (Err error) after = TakesByLookBy words before (Err error) after

-- such looks, one after another, of which the last one came to this, and the others found none
abbrev pub LooksOnBy : ℕ → Wakes → {A : Type 0} → (Joined → A → Joined → Type 0) → Joined → A → Joined → Type 0
LooksOnBy words wakes Looks before result after =
    (looks : ℕ) × (last : Joined) × Repeats (FindsNoneBy words wakes) looks before last × Looks last result after

-- What a take until a deadline comes to: it took one or was refused, as one without a deadline, but that its pop posted
-- nothing; or it took none, and the clock told a time that is not before the deadline, or none; or it made no pop, as it found the
-- lock held until the clock told so.
abbrev pub TakesUntilBy : ℕ → Wakes → (may_tell : Option Instant → Type 0) → Instant → Joined → Result Awaited CallError → Joined → Type 0
TakesUntilBy words wakes may_tell deadline before (Ok (awaited.Taken number x)) after =
    TakesOneSoBy words wakes (TriesUntilFreeBy words) before (Ok (number, x)) after
TakesUntilBy words wakes may_tell deadline before (Ok (awaited.Late number now)) after =
    TakesNoneYetBy words wakes before number after × IsToldLate may_tell deadline now
TakesUntilBy words wakes may_tell deadline before (Ok (awaited.NoClock number)) after =
    TakesNoneYetBy words wakes before number after × may_tell None
TakesUntilBy words wakes may_tell deadline before (Ok (awaited.Held told)) after =
    ((tries : ℕ) × Misses tries before after) × MayEnd may_tell deadline told
TakesUntilBy words wakes may_tell deadline before (Err error) after =
    TakesOneSoBy words wakes (TriesUntilFreeBy words) before (Err error) after

-- The same of a take that may heed the end of its queue: it came to what one does that doesn't, or was refused so; or it tells
-- the end, and took none: its last look found the queue shut, and no item, as the journal is which it knows now. No look before
-- found that, where the take heeds the end.
abbrev pub OrEndsBy : ℕ → Wakes → {A : Type 0} → (Joined → Result A CallError → Joined → Type 0) → Joined → Result (Option A) CallError
    → Joined → Type 0
OrEndsBy words wakes Takes before (Ok (Some a)) after = Takes before (Ok a) after
OrEndsBy words wakes Takes before (Ok None) after =
    (line : ℕ) × (last : Joined) × TakesNoneBy words wakes before line last × FindsEndBy words last after
OrEndsBy words wakes Takes before (Err error) after = Takes before (Err error) after

-- the item that a take tells, with its line, if it tells one: without a deadline, until one, and where it heeds the end
abbrev pub told_item : Result (ℕ × Item) CallError → Option (ℕ × Item)
told_item (Ok told) = Some told
told_item (Err error) = None

abbrev pub awaited_item : Result Awaited CallError → Option (ℕ × Item)
awaited_item (Ok (awaited.Taken number x)) = Some (number, x)
awaited_item (Ok (awaited.Late number now)) = None
awaited_item (Ok (awaited.NoClock number)) = None
awaited_item (Ok (awaited.Held told)) = None
awaited_item (Err error) = None

abbrev pub item_or_end : {A : Type 0} → (Result A CallError → Option (ℕ × Item)) → Result (Option A) CallError → Option (ℕ × Item)
item_or_end item (Ok (Some a)) = item (Ok a)
item_or_end item (Ok None) = None
item_or_end item (Err error) = item (Err error)

-- the entered pop in vain with this serial, on this line, if there is one
abbrev pub vain_pop : ℕ → Option ℕ → List Call
vain_pop serial None = []
vain_pop serial (Some line) = call line serial Pop Empty ∷ []

-- the entered pop with this serial that took this item out, on this line, if there is one
abbrev pub taking_pop : ℕ → Option (ℕ × Item) → List Call
taking_pop serial None = []
taking_pop serial (Some told) = call told.0 serial Pop (Got told.1) ∷ []

-- What a take adds to the entered calls of its member, where it tells this item, or none: at most one pop in vain, its first request;
-- then exactly one pop that took this item out, its last request; and nothing else.
pub record AddsPops (before : Joined) (told : Option (ℕ × Item)) (after : Joined) : Type 0 where
  pub vain : Option ℕ
  pub calls : after.pen.mine ≡ before.pen.mine ++ (vain_pop (before.pen.posts + 1) vain ++ taking_pop after.pen.posts told)

-- The same of narrow items, which have one word.
abbrev pub TakesOne : Wakes → (before : Joined) (result : Result (ℕ × Item) CallError) (after : Joined) → Type 0
TakesOne = TakesOneBy 1

abbrev pub TakesUntil : Wakes → (may_tell : Option Instant → Type 0) → Instant → Joined → Result Awaited CallError → Joined → Type 0
TakesUntil = TakesUntilBy 1

abbrev pub OrEnds : Wakes → {A : Type 0} → (Joined → Result A CallError → Joined → Type 0) → Joined → Result (Option A) CallError
    → Joined → Type 0
OrEnds = OrEndsBy 1
