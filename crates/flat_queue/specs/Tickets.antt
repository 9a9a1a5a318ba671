-- What a call makes of its member that uses a ticket, the number of the line that put an item in: it removes the item, or moves it
-- to another priority.
use Rattle.std.specs.Prelude.{◌≡◌, ℕ, ◌<◌, ◌≤◌, ◌↔◌, Option, Some, None}
use Rattle.std.specs.Prelude.{Result, Ok, Err, IfOk, IfErr, IsErrOf}
use Rattle.pq_types.specs.Item.{Item}
use Rattle.pq_types.specs.Operation.{Ticketed, Remove, Move, ByTicket}
use Rattle.pq_types.specs.Asked.{Reply}
use Rattle.pq_types.specs.declared.answer.Reply.TheVariants.{Pushed, Got, Empty, Least as LeastIs}
use Rattle.pq_types.specs.Asked.{Answer}
use Rattle.pq_types.specs.declared.answer.Answer.TheVariants.{Entered}
use Rattle.pq_types.specs.declared.answer.Answer.TheVariants as answer
use Rattle.pq_types.specs.Entry.{taken}
use Rattle.pq_types.specs.History.{PutsIn}
use Rattle.desk_core.specs.declared.model.Standing.TheVariants.{Idle}
use Rattle.announce_board.specs.Asking.{IsAnswerBy, IsBarredBy, IsFullFor}
use Rattle.flat_queue.specs.Limits.{most_posts}
use Rattle.flat_queue.specs.Members.{Joined}
use Rattle.flat_queue.specs.Turns.{Misses}
use Rattle.flat_queue.specs.Calling.{IsEntered, HasPostedOne}
use Rattle.flat_queue.specs.OwnRequest.{ReleasesOperation, CarriesOutOperationBy}
use Rattle.flat_queue.specs.declared.error.CallError.{CallError}
use Rattle.flat_queue.specs.declared.error.CallError.TheVariants.{NoMemory, BookFull, Spent, GaveUp}
use Rattle.flat_queue.specs.declared.error.CallError.TheVariants as error

-- The leader released the lock with this use of a ticket. Where it was entered, its reply is the item of the entry with this
-- ticket in the queue that the journal in hand left, as it was there, and Empty where there is none (`MayDo`).
abbrev pub ReleasesByTicket : (before : Joined) (ticketed : Ticketed) (answer : Answer) (after : Joined) → Type 0
ReleasesByTicket before ticketed answer after = ReleasesOperation before (ByTicket ticketed) answer after

-- the item that was found by a ticket, by the reply to its use
abbrev pub found_by : Reply → Option Item
found_by Pushed = None
found_by (Got x) = Some x
found_by (LeastIs x) = None
found_by Empty = None

-- what an answer comes to as the end of such a call
abbrev pub ended_by_ticket : Answer → Result (ℕ × Option Item) CallError
ended_by_ticket (Entered number reply) = Ok (number, found_by reply)
ended_by_ticket answer.BookFull = Err BookFull
ended_by_ticket answer.NoMemory = Err NoMemory
ended_by_ticket (answer.Refused why) = Err (error.Refused why)

-- The member carried this use of a ticket out, from the journal in its hand when it released. Items have so many words.
pub record CarriesOutByTicket (words : ℕ) (ticketed : Ticketed) (before : Joined) (answer : Answer) (after : Joined) : Type 0 where
  pub carries : CarriesOutOperationBy words before (ByTicket ticketed) answer after
  pub fits : IsAnswerBy before.queue.room (ByTicket ticketed) answer

-- What its answer tells: the item that was found, as it was; that it no longer waits; that the journal is full; or, of a move
-- alone, that memory was refused; or a refusal by the queue's rules that such a use may get.
abbrev pub TellsFound : Ticketed → Answer → Type 0
TellsFound ticketed (Entered number Pushed) = ⊥
TellsFound ticketed (Entered number (Got x)) = Unit {0}
TellsFound ticketed (Entered number (LeastIs x)) = ⊥
TellsFound ticketed (Entered number Empty) = Unit {0}
TellsFound ticketed answer.BookFull = Unit {0}
TellsFound ticketed answer.NoMemory = PutsIn (ByTicket ticketed)
TellsFound ticketed (answer.Refused why) = IsBarredBy (ByTicket ticketed) why

-- the line of this number is this use of a ticket, which found x, or found none
abbrev pub IsUsed : Ticketed → Joined → ℕ → Option Item → Joined → Type 0
IsUsed ticketed before number found after = IsEntered before (ByTicket ticketed) number (taken found) after

-- What each refusal says: the use of the ticket has no line and the member is idle; or nothing was done, as no serial was left.
-- Only a move is refused for want of memory, and none gives up.
abbrev pub IsUnused : Ticketed → Joined → CallError → Joined → Type 0
IsUnused ticketed before NoMemory after = PutsIn (ByTicket ticketed) × HasPostedOne before (Idle None) before.pen.mine after
IsUnused ticketed before BookFull after = HasPostedOne before (Idle None) before.pen.mine after
IsUnused ticketed before (error.Refused why) after =
    IsBarredBy (ByTicket ticketed) why × HasPostedOne before (Idle None) before.pen.mine after
IsUnused ticketed before Spent after = (most_posts before.queue.room ≤ before.pen.posts) × (after ≡ before)
IsUnused ticketed before GaveUp after = ⊥

-- the member found the lock held so often, and then carried the use of the ticket out
pub record MissesThenUsesBy (words : ℕ) (ticketed : Ticketed) (before : Joined) (answer : Answer) (after : Joined) : Type 0 where
  pub tries : ℕ
  pub missed : Joined
  pub misses : Misses tries before missed
  pub carries : CarriesOutByTicket words ticketed missed answer after

-- What such a call came to. It posts nothing, and never gives up.
-- - ok: the use of the ticket stands in the journal on the line that was told, once, with what was told as its reply.
-- - err: it has no line, and the refusal says why. No removal is refused for want of memory.
-- - full: it says that the journal is full only where it was.
-- - spent: the member had no serial left exactly where the call says so.
-- - turns: else it found the lock held some times, and then carried the use of the ticket out.
pub record UsesTicketBy (words : ℕ) (ticketed : Ticketed) (before : Joined) (result : Result (ℕ × Option Item) CallError)
    (after : Joined) : Type 0 where
  pub ok : IfOk result (λ told. IsUsed ticketed before told.0 told.1 after)
  pub err : IfErr result (λ error. IsUnused ticketed before error after)
  pub full : IsErrOf result BookFull → IsFullFor after.pen
  pub spent : IsErrOf result Spent ↔ (most_posts before.queue.room ≤ before.pen.posts)
  pub turns : before.pen.posts < most_posts before.queue.room
      → (answer : Answer) × (result ≡ ended_by_ticket answer) × MissesThenUsesBy words ticketed before answer after

-- a call that removes the item with this ticket
abbrev pub RemovesBy : (words ticket : ℕ) (before : Joined) (result : Result (ℕ × Option Item) CallError) (after : Joined) → Type 0
RemovesBy words ticket before result after = UsesTicketBy words (Remove ticket) before result after

-- a call that moves the item with this ticket to this priority
abbrev pub ReschedulesBy : (words ticket priority : ℕ) (before : Joined) (result : Result (ℕ × Option Item) CallError)
    (after : Joined) → Type 0
ReschedulesBy words ticket priority before result after = UsesTicketBy words (Move ticket priority) before result after

-- The same of narrow items, which have one word.
abbrev pub Removes : (ticket : ℕ) (before : Joined) (result : Result (ℕ × Option Item) CallError) (after : Joined) → Type 0
Removes = RemovesBy 1

abbrev pub Reschedules : (ticket priority : ℕ) (before : Joined) (result : Result (ℕ × Option Item) CallError)
    (after : Joined) → Type 0
Reschedules = ReschedulesBy 1
