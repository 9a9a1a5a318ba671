-- What a member does that looks at the first item under the lock, and takes it out where it wants that.
use Rattle.std.specs.Prelude.{◌≡◌, ℕ, ◌<◌, ◌≤◌, ⊤, Bool, true, false, List, Option, Some, None, length}
use Rattle.pq_types.specs.Item.{Item}
use Rattle.pq_types.specs.declared.request.Request.TheVariants.{Pop}
use Rattle.pq_types.specs.declared.answer.Reply.TheVariants.{Pushed, Got, Empty, Least as LeastIs}
use Rattle.pq_types.specs.Asked.{Answer, Line}
use Rattle.pq_types.specs.declared.answer.Answer.TheVariants.{Entered}
use Rattle.pq_types.specs.declared.answer.Answer.TheVariants as answer
use Rattle.pq_types.specs.History.{left, is_shut}
use Rattle.pq_book.specs.Book.{Volume}
use Rattle.leftist_heap.specs.Store.{first_of}
use Rattle.desk_core.specs.Pen.{after_release}
use Rattle.announce_board.specs.Asking.{IsAnswerTo}
use Rattle.announce_board.specs.Serving.{Wins}
use Rattle.flat_queue.specs.Members.{Joined, StaysAtPlace}
use Rattle.flat_queue.specs.Calling.{StaysMember}
use Rattle.flat_queue.specs.OwnRequest.{SweepsWhereBy, CarriesOutBy}
use Rattle.flat_queue.specs.Turns.{Misses}
use Rattle.flat_queue.specs.declared.event_count.Wakes.{Wakes}
use Rattle.flat_queue.specs.declared.event_count.Wakes.TheVariants.{Event}
use Rattle.flat_queue.specs.declared.looking.Wanted.{Wanted}
use Rattle.flat_queue.specs.declared.looking.Wanted.TheVariants as wanted
use Rattle.flat_queue.specs.declared.looking.Looked.{Looked as LookedOf}
use Rattle.flat_queue.specs.declared.looking.Looked.TheVariants as looked

-- what such a look comes to, of items of any width
abbrev pub Looked : Type 0
Looked = LookedOf Item

-- an item of this priority is one that the member wants
abbrev pub IsWanted : Wanted → ℕ → Type 0
IsWanted wanted.Nothing priority = ⊥
IsWanted (wanted.UpTo bound) priority = priority ≤ bound
IsWanted wanted.Anything priority = ⊤

-- the member has made no request: it stands as it stood, with the calls that it had
pub record MakesNoRequest (before after : Joined) : Type 0 where
  pub stays : StaysMember before after
  pub posts : after.pen.posts ≡ before.pen.posts
  pub standing : after.pen.standing ≡ before.pen.standing
  pub mine : after.pen.mine ≡ before.pen.mine

-- The member won the lock, served the others where it read that somebody had posted, and released with no request of its
-- own. Here, and in all that follows, items have so many words.
pub record ServesAloneBy (words : ℕ) (before after : Joined) : Type 0 where
  pub book : Volume
  pub led : Joined
  pub ready : Joined
  pub won : Wins before.pen book led.pen
  pub stays : StaysAtPlace before led
  pub hinted : Bool
  pub sweeps : SweepsWhereBy words hinted led ready
  pub release : after ≡ record ready { pen = after_release ready.pen }
  pub none : MakesNoRequest before after

-- so it did, and the journal, which it knows now, has a line left
pub record ServesOthersBy (words : ℕ) (before after : Joined) : Type 0 where
  pub serves : ServesAloneBy words before after
  pub spare : length after.pen.known < before.queue.room

-- the member carried a pop of its own out, which was so answered
abbrev pub PopsUnderLockBy : ℕ → Joined → Answer → Joined → Type 0
PopsUnderLockBy words before answer after = CarriesOutBy words before Pop answer after × IsAnswerTo before.queue.room Pop answer

-- the first item is wanted
abbrev pub IsFirstWanted : Wanted → Option Item → Type 0
IsFirstWanted wants None = ⊥
IsFirstWanted wants (Some x) = IsWanted wants x.priority

-- A look that makes no request tells what it leaves there: the first item, which it doesn't want; or that there is none, in a
-- queue that is open, or shut.
abbrev pub IsLeft : Wanted → Option Item → (shut : Bool) → Looked → Type 0
IsLeft wants first shut (looked.Taken number x) = ⊥
IsLeft wants first shut (looked.Stays x) = (first ≡ Some x) × ¬ (IsWanted wants x.priority)
IsLeft wants first shut looked.Nothing = (first ≡ None) × (shut ≡ false)
IsLeft wants first shut looked.Over = (first ≡ None) × (shut ≡ true)
IsLeft wants first shut looked.BookFull = ⊥
IsLeft wants first shut (looked.Refused why) = ⊥

-- What a look finds that wants nothing, at a journal with these lines and so much room: the first item; that there is none, and
-- the queue is open, or shut; or that the journal is full.
abbrev pub FindsNext : ℕ → List Line → Looked → Type 0
FindsNext room lines (looked.Taken number x) = ⊥
FindsNext room lines (looked.Stays x) = (length lines < room) × (first_of (left lines) ≡ Some x)
FindsNext room lines looked.Nothing = (length lines < room) × (first_of (left lines) ≡ None) × (is_shut lines ≡ false)
FindsNext room lines looked.Over = (length lines < room) × (first_of (left lines) ≡ None) × (is_shut lines ≡ true)
FindsNext room lines looked.BookFull = room ≤ length lines
FindsNext room lines (looked.Refused why) = ⊥

-- what a look comes to whose pop was so answered
abbrev pub looked_by : Answer → Looked
looked_by (Entered number Pushed) = looked.Nothing
looked_by (Entered number (Got x)) = looked.Taken number x
looked_by (Entered number (LeastIs x)) = looked.Nothing
looked_by (Entered number Empty) = looked.Nothing
looked_by answer.BookFull = looked.BookFull
looked_by answer.NoMemory = looked.BookFull
looked_by (answer.Refused why) = looked.Refused why

-- What the look came to: a pop of the member's own took out an item that it wants, on this line, or was answered that the
-- journal is full, or refused by the queue's rules; or it made no request, and tells what it leaves there.
abbrev pub LooksFirstBy : ℕ → Wanted → Joined → Looked → Joined → Type 0
LooksFirstBy words wants before (looked.Taken number x) after =
    PopsUnderLockBy words before (Entered number (Got x)) after × IsWanted wants x.priority
LooksFirstBy words wants before (looked.Stays x) after =
    ServesOthersBy words before after × IsLeft wants (first_of (left after.pen.known)) (is_shut after.pen.known) (looked.Stays x)
LooksFirstBy words wants before looked.Nothing after =
    ServesOthersBy words before after × IsLeft wants (first_of (left after.pen.known)) (is_shut after.pen.known) looked.Nothing
LooksFirstBy words wants before looked.Over after =
    ServesOthersBy words before after × IsLeft wants (first_of (left after.pen.known)) (is_shut after.pen.known) looked.Over
LooksFirstBy words wants before looked.BookFull after = PopsUnderLockBy words before answer.BookFull after
LooksFirstBy words wants before (looked.Refused why) after = PopsUnderLockBy words before (answer.Refused why) after

-- The look found no item, and that is no end to a call which is woken so: the queue is open, or the call heeds no end.
abbrev pub IsEmptyYet : Wakes → Looked → Type 0
IsEmptyYet wakes (looked.Taken number x) = ⊥
IsEmptyYet wakes (looked.Stays x) = ⊥
IsEmptyYet wakes looked.Nothing = ⊤
IsEmptyYet wakes looked.Over = wakes ≡ Event
IsEmptyYet wakes looked.BookFull = ⊥
IsEmptyYet wakes (looked.Refused why) = ⊥

-- so the member looked
abbrev pub SeesEmptyYetBy : ℕ → Wakes → Wanted → Joined → Joined → Type 0
SeesEmptyYetBy words wakes wants before after = (told : Looked) × IsEmptyYet wakes told × LooksFirstBy words wants before told after

-- the member found the lock held so often, and then it looked
pub record MissesThenLooksBy (words : ℕ) (wants : Wanted) (before : Joined) (told : Looked) (after : Joined) : Type 0 where
  pub tries : ℕ
  pub missed : Joined
  pub misses : Misses tries before missed
  pub looks : LooksFirstBy words wants missed told after
