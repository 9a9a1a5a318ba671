-- What a call makes of its member that takes the first item out where its priority is at most a bound,
-- and else tells it.
use Rattle.std.specs.Prelude.{◌≡◌, ℕ, ◌<◌, ◌≤◌, ◌↔◌, nat_le, if◌then◌else◌, Option, Some, None}
use Rattle.std.specs.Prelude.{Result, Ok, Err, IfOk, IfErr, IsErrOf}
use Rattle.pq_types.specs.Item.{Item}
use Rattle.pq_types.specs.Asked.{Request}
use Rattle.pq_types.specs.declared.request.Request.TheVariants.{Pop, Least}
use Rattle.pq_types.specs.Asked.{Reply}
use Rattle.pq_types.specs.declared.answer.Reply.TheVariants.{Pushed, Got, Empty, Least as LeastIs}
use Rattle.pq_types.specs.Asked.{Answer}
use Rattle.pq_types.specs.declared.answer.Answer.TheVariants.{Entered}
use Rattle.pq_types.specs.declared.answer.Answer.TheVariants as answer
use Rattle.pq_types.specs.History.{left}
use Rattle.leftist_heap.specs.Store.{first_of}
use Rattle.announce_board.specs.Asking.{IsAnswerTo, IsBarredBy, IsFullFor}
use Rattle.flat_queue.specs.Limits.{most_posts}
use Rattle.flat_queue.specs.Members.{Joined}
use Rattle.flat_queue.specs.Turns.{Misses}
use Rattle.flat_queue.specs.Calling.{IsCalled, IsRefused}
use Rattle.flat_queue.specs.OwnRequest.{CarriesOutBy}
use Rattle.flat_queue.specs.declared.error.CallError.{CallError}
use Rattle.flat_queue.specs.declared.error.CallError.TheVariants.{NoMemory, BookFull, Spent}
use Rattle.flat_queue.specs.declared.error.CallError.TheVariants as error
use Rattle.pq_types.specs.Operation.{Asked}
use Rattle.flat_queue.specs.declared.up_to.UpTo.{UpTo as UpToOf}
use Rattle.flat_queue.specs.declared.up_to.UpTo.TheVariants as up_to

-- what such a call finds, of items of any width
abbrev pub UpTo : Type 0
UpTo = UpToOf Item

-- the request that is made where this item is the first: a pop, but a least where its priority is above
-- the bound
abbrev pub request_up_to : ℕ → Option Item → Request
request_up_to bound None = Pop
request_up_to bound (Some x) = if nat_le x.priority bound then Pop else Least

-- what such a call tells of a reply
abbrev pub told_up_to : Reply → UpTo
told_up_to Pushed = up_to.Empty
told_up_to (Got x) = up_to.Got x
told_up_to (LeastIs x) = up_to.Later x
told_up_to Empty = up_to.Empty

-- what an answer comes to as the end of such a call
abbrev pub ended_up_to : Answer → Result (ℕ × UpTo) CallError
ended_up_to (Entered number reply) = Ok (number, told_up_to reply)
ended_up_to answer.BookFull = Err BookFull
ended_up_to answer.NoMemory = Err NoMemory
ended_up_to (answer.Refused why) = Err (error.Refused why)

-- The member carried a request of its own out: the one that the first item of the queue asks for, as the
-- journal left it that was in its hand when it released. Items have so many words.
pub record CarriesOutUpToBy (words bound : ℕ) (before : Joined) (answer : Answer) (after : Joined) : Type 0 where
  pub request : Request
  pub carries : CarriesOutBy words before request answer after
  pub fits : IsAnswerTo before.queue.room request answer
  pub chosen : request ≡ request_up_to bound (first_of (left carries.ready.pen.hand))

-- What its answer tells: an item that was taken out, whose priority is at most the bound; one that stays, whose
-- priority is above it; that there is no item; that the journal is full; or a refusal by the queue's rules that a pop may get.
abbrev pub TellsUpTo : ℕ → Answer → Type 0
TellsUpTo bound (Entered number Pushed) = ⊥
TellsUpTo bound (Entered number (Got x)) = x.priority ≤ bound
TellsUpTo bound (Entered number (LeastIs x)) = bound < x.priority
TellsUpTo bound (Entered number Empty) = Unit {0}
TellsUpTo bound answer.BookFull = Unit {0}
TellsUpTo bound answer.NoMemory = ⊥
TellsUpTo bound (answer.Refused why) = IsBarredBy (Asked Pop) why

-- The line of this number is a pop that took x out, whose priority is at most the bound; or a least that
-- found x first, whose priority is above it; or a pop that found the queue empty.
abbrev pub IsUpTo : ℕ → Joined → ℕ → UpTo → Joined → Type 0
IsUpTo bound before number (up_to.Got x) after = IsCalled before Pop number (Got x) after × (x.priority ≤ bound)
IsUpTo bound before number (up_to.Later x) after = IsCalled before Least number (LeastIs x) after × (bound < x.priority)
IsUpTo bound before number up_to.Empty after = IsCalled before Pop number Empty after

-- the member found the lock held so often, and then carried out what the first item asked for
pub record MissesThenCarriesOutBy (words bound : ℕ) (before : Joined) (answer : Answer) (after : Joined) : Type 0 where
  pub tries : ℕ
  pub missed : Joined
  pub misses : Misses tries before missed
  pub carries : CarriesOutUpToBy words bound missed answer after

-- What such a call came to. It posts nothing, never gives up, and is never refused for want of memory.
-- - ok: the request that the first item asked for stands in the journal on the line that was told, once.
-- - err: it has no line, and the refusal says why.
-- - full: it says that the journal is full only where it was.
-- - spent: the member had no serial left exactly where the call says so.
-- - turns: else it found the lock held some times, and then carried out what the first item asked for.
pub record PopsUpToBy (words bound : ℕ) (before : Joined) (result : Result (ℕ × UpTo) CallError) (after : Joined) : Type 0 where
  pub ok : IfOk result (λ told. IsUpTo bound before told.0 told.1 after)
  pub err : IfErr result (λ error. IsRefused ⊥ before Pop error after)
  pub full : IsErrOf result BookFull → IsFullFor after.pen
  pub spent : IsErrOf result Spent ↔ (most_posts before.queue.room ≤ before.pen.posts)
  pub turns : before.pen.posts < most_posts before.queue.room
      → (answer : Answer) × (result ≡ ended_up_to answer) × MissesThenCarriesOutBy words bound before answer after

-- The same of narrow items, which have one word.
abbrev pub CarriesOutUpTo : (bound : ℕ) (before : Joined) (answer : Answer) (after : Joined) → Type 0
CarriesOutUpTo = CarriesOutUpToBy 1

abbrev pub PopsUpTo : (bound : ℕ) (before : Joined) (result : Result (ℕ × UpTo) CallError) (after : Joined) → Type 0
PopsUpTo = PopsUpToBy 1
