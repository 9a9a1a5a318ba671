-- What a member does that takes its own entry out of those who wait, and under the same lock looks at the first item, or pushes; and
-- that enters again where it has to wait.
use Rattle.std.specs.Prelude.{◌≡◌, ℕ, ◌<◌, ◌≤◌, Bool, false, if◌then◌else◌, List, length, Option, Some, None}
use Rattle.pq_types.specs.Item.{Item}
use Rattle.pq_types.specs.Asked.{Request, Answer, Line}
use Rattle.pq_types.specs.declared.request.Request.TheVariants.{Push, Pop}
use Rattle.pq_types.specs.declared.answer.Reply.TheVariants.{Got}
use Rattle.pq_types.specs.declared.answer.Answer.TheVariants.{Entered}
use Rattle.pq_types.specs.declared.answer.Answer.TheVariants as answer
use Rattle.pq_types.specs.History.{Limits, left, is_shut}
use Rattle.wait_list.specs.declared.waiter.Waiter.{Waiter}
use Rattle.wait_list.specs.declared.waiter.Wants.{Wants}
use Rattle.wait_list.specs.declared.waiter.Wants.TheVariants as wants
use Rattle.wait_list.specs.Waiters.{Waits as EntersList, Leaves as LeavesList, AllLeave}
use Rattle.wait_list.specs.Settled.{is_watched}
use Rattle.pq_book.specs.Book.{Volume}
use Rattle.leftist_heap.specs.Store.{first_of}
use Rattle.desk_core.specs.declared.model.PenState.{PenState}
use Rattle.desk_core.specs.Pen.{after_change, after_release, limits_in_hand}
use Rattle.announce_board.specs.Asking.{IsAnswerTo}
use Rattle.announce_board.specs.Serving.{Wins}
use Rattle.flat_queue.specs.Members.{Joined, StaysAtPlace}
use Rattle.flat_queue.specs.OwnRequest.{SweepsWhereBy, ReleasesWith}
use Rattle.flat_queue.specs.Looking.{Looked, IsWanted, IsLeft, MakesNoRequest}
use Rattle.flat_queue.specs.declared.looking.Wanted.{Wanted}
use Rattle.flat_queue.specs.declared.looking.Looked.TheVariants as looked
use Rattle.flat_queue.specs.declared.wait_steps.Patience.{Patience}
use Rattle.flat_queue.specs.declared.wait_steps.Patience.TheVariants.{Leaves, Any, UpTo, Due, Alarm}
use Rattle.flat_queue.specs.declared.wait_steps.Entry.{Entry}
use Rattle.flat_queue.specs.declared.wait_steps.Entry.TheVariants.{Out, Waits, Watches}
use Rattle.flat_queue.specs.declared.wait_steps.RoomWait.{RoomWait}
use Rattle.flat_queue.specs.declared.wait_steps.RoomWait.TheVariants.{Sleeps, Listens}
use Rattle.flat_queue.specs.declared.wait_steps.PushedOr.{PushedOr as PushedOrOf}
use Rattle.flat_queue.specs.declared.wait_steps.PushedOr.TheVariants as pushed

-- what a push that may wait comes to, of items of any width
abbrev pub PushedOr : Type 0
PushedOr = PushedOrOf Item

-- The member won the lock, served the others where it read that somebody had posted, and then took the entry of this number out of
-- those who wait, where there was one. Here, and in all that follows, items have so many words.
pub record LeavesAndLeadsBy (words number : ℕ) (before ready : Joined) : Type 0 where
  pub book : Volume
  pub led : Joined
  pub served : Joined
  pub won : Wins before.pen book led.pen
  pub stays : StaysAtPlace before led
  pub hinted : Bool
  pub sweeps : SweepsWhereBy words hinted led served
  pub leaves : ready ≡ record served { pen = after_change served.pen (LeavesList number) }

-- It leads, and stands as it stood: nothing is due to it.
pub record StandsReady (before ready : Joined) : Type 0 where
  pub queue : ready.queue ≡ before.queue
  pub room : ready.pen.room ≡ before.pen.room
  pub posts : ready.pen.posts ≡ before.pen.posts
  pub standing : ready.pen.standing ≡ before.pen.standing
  pub due : ready.pen.due ≡ None

-- The member did so, and released the lock with this request of its own, which was so answered.
pub record LeavesAndCarriesOutBy (words number : ℕ) (before : Joined) (request : Request) (answer : Answer) (after : Joined) : Type 0 where
  pub ready : Joined
  pub leads : LeavesAndLeadsBy words number before ready
  pub released : ReleasesWith ready request answer after
  pub fits : IsAnswerTo before.queue.room request answer

-- the pen that leads, once the one with this number waits for this after all others, or for nothing
abbrev pub entered_for : ℕ → Option Wants → PenState → PenState
entered_for number None p = p
entered_for number (Some wants) p = after_change p (EntersList number wants)

-- The member left and served so, entered again by what it wants of those who wait then, or not at all, and released with no request of
-- its own.
pub record LeavesAndWaitsBy (words number : ℕ) (wants : List Waiter → Option Wants) (before after : Joined) : Type 0 where
  pub ready : Joined
  pub leads : LeavesAndLeadsBy words number before ready
  pub release : after ≡ record ready { pen = after_release (entered_for number (wants ready.pen.waiters) ready.pen) }
  pub none : MakesNoRequest before after

-- the priority of the first item, where there is one and nobody watches for it
abbrev pub watch_for : Option ℕ → List Waiter → Option ℕ
watch_for None ws = None
watch_for (Some first) ws = if is_watched first ws then None else Some first

-- what one of this patience waits for, who finds that the first item has this priority, or that there is none, while these wait
abbrev pub wants_for : Patience → Option ℕ → List Waiter → Option Wants
wants_for Leaves first ws = None
wants_for Any first ws = Some wants.Any
wants_for (UpTo bound) first ws = Some (wants.UpTo bound first)
wants_for Due first ws = Some (wants.Due (watch_for first ws))
wants_for Alarm first ws = Some (wants.Alarm first)

-- the same of one whose look leaves this there: it waits for nothing where the queue is over
abbrev pub wants_left : Patience → Looked → List Waiter → Option Wants
wants_left patience (looked.Taken number x) ws = None
wants_left patience (looked.Stays x) ws = wants_for patience (Some x.priority) ws
wants_left patience looked.Nothing ws = wants_for patience None ws
wants_left patience looked.Over ws = None
wants_left patience looked.BookFull ws = None
wants_left patience (looked.Refused why) ws = None

-- whether one is among those who wait, and is to come back by itself
abbrev pub entry_for : Option Wants → Entry
entry_for None = Out
entry_for (Some wants.Any) = Waits
entry_for (Some (wants.UpTo bound seen)) = Waits
entry_for (Some (wants.Due None)) = Waits
entry_for (Some (wants.Due (Some first))) = Watches
entry_for (Some (wants.Alarm armed)) = Watches
entry_for (Some wants.Room) = Waits
entry_for (Some wants.RoomUp) = Waits

-- the member took its entry out, and carried a pop of its own out, which was so answered
abbrev pub LeavesAndPopsBy : ℕ → ℕ → Joined → Answer → Entry → Joined → Type 0
LeavesAndPopsBy words number before answer entry after = LeavesAndCarriesOutBy words number before Pop answer after × (entry ≡ Out)

-- The look made no request, at a journal that has a line left, and leaves this there; and the member entered again for what it waits
-- for beside that, or for nothing.
pub record LeavesItThereBy (words number : ℕ) (wanted : Wanted) (patience : Patience) (before : Joined) (told : Looked) (entry : Entry) (after : Joined) : Type 0 where
  pub waits : LeavesAndWaitsBy words number (wants_left patience told) before after
  pub entry_is : entry ≡ entry_for (wants_left patience told waits.ready.pen.waiters)
  pub spare : length after.pen.known < before.queue.room
  pub left_there : IsLeft wanted (first_of (left after.pen.known)) (is_shut after.pen.known) told

-- What the look came to: a pop of the member's own took out an item that it wants, on this line, or was answered that the
-- journal is full, or refused by the queue's rules, and the member is out of the list; or it made no request, and waits as its
-- patience says.
abbrev pub TakesOrWaitsBy : ℕ → ℕ → Wanted → Patience → Joined → Looked → Entry → Joined → Type 0
TakesOrWaitsBy words number wanted patience before (looked.Taken line x) entry after =
    LeavesAndPopsBy words number before (Entered line (Got x)) entry after × IsWanted wanted x.priority
TakesOrWaitsBy words number wanted patience before (looked.Stays x) entry after =
    LeavesItThereBy words number wanted patience before (looked.Stays x) entry after
TakesOrWaitsBy words number wanted patience before looked.Nothing entry after =
    LeavesItThereBy words number wanted patience before looked.Nothing entry after
TakesOrWaitsBy words number wanted patience before looked.Over entry after =
    LeavesItThereBy words number wanted patience before looked.Over entry after
TakesOrWaitsBy words number wanted patience before looked.BookFull entry after =
    LeavesAndPopsBy words number before answer.BookFull entry after
TakesOrWaitsBy words number wanted patience before (looked.Refused why) entry after =
    LeavesAndPopsBy words number before (answer.Refused why) entry after

-- Nothing but its bound refuses a push, or memory: as many items wait as the bound, or more; the journal has room for a line, which
-- makes memory forget none that is not archived; and the queue is open.
pub record IsJustFull (limits : Limits) (lines : List Line) : Type 0 where
  pub space : length lines < limits.room
  pub kept : length lines < limits.allowed
  pub is_open : is_shut lines ≡ false
  pub full : limits.bound ≤ length (left lines)

-- what one waits for who waits for room
abbrev pub room_wants : RoomWait → Wants
room_wants Sleeps = wants.Room
room_wants Listens = wants.RoomUp

-- What a push came to: the member took its entry out, and carried the push out, which was so answered, as the queue was not just full;
-- or it was, and the member waits for room.
abbrev pub PushesOrWaitsBy : ℕ → ℕ → Item → RoomWait → Joined → PushedOr → Joined → Type 0
PushesOrWaitsBy words number x wait before (pushed.Answered answer) after =
    (h : LeavesAndCarriesOutBy words number before (Push x) answer after)
    × ¬ IsJustFull (limits_in_hand h.ready.pen) h.ready.pen.hand
PushesOrWaitsBy words number x wait before pushed.Waits after =
    LeavesAndWaitsBy words number (λ _. Some (room_wants wait)) before after
    × IsJustFull (limits_in_hand after.pen) after.pen.known

-- The member won the lock, took those whose bits are set in the mask out of those who wait, and released: it did nothing else.
pub record LeavesTheList (mask : ℕ) (before after : Joined) : Type 0 where
  pub book : Volume
  pub led : Joined
  pub won : Wins before.pen book led.pen
  pub stays : StaysAtPlace before led
  pub release : after ≡ record led { pen = after_release (after_change led.pen (AllLeave mask)) }
