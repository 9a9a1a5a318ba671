-- What a call makes of its member that shuts the queue.
use Rattle.std.specs.Prelude.{◌≡◌, ℕ, ◌<◌, ◌≤◌, ◌↔◌, true, false, List, None}
use Rattle.std.specs.Prelude.{Result, Ok, Err, IfOk, IfErr, IsErrOf}
use Rattle.pq_types.specs.Operation.{Shuts}
use Rattle.pq_types.specs.declared.answer.Reply.TheVariants.{Empty}
use Rattle.pq_types.specs.Asked.{Answer, Line}
use Rattle.pq_types.specs.declared.answer.Answer.TheVariants.{Entered}
use Rattle.pq_types.specs.declared.answer.Answer.TheVariants as answer
use Rattle.pq_types.specs.declared.answer.Refusal.TheVariants.{Shut, Unarchived, Full}
use Rattle.pq_types.specs.History.{is_shut}
use Rattle.desk_core.specs.declared.model.Standing.TheVariants.{Idle}
use Rattle.announce_board.specs.Asking.{IsAnswerBy, IsBarredBy, IsFullFor}
use Rattle.flat_queue.specs.Limits.{most_posts}
use Rattle.flat_queue.specs.Members.{Joined}
use Rattle.flat_queue.specs.Turns.{Misses}
use Rattle.flat_queue.specs.Calling.{IsEntered, HasPostedOne}
use Rattle.flat_queue.specs.OwnRequest.{CarriesOutOperationBy}
use Rattle.flat_queue.specs.declared.error.CallError.{CallError}
use Rattle.flat_queue.specs.declared.error.CallError.TheVariants.{NoMemory, BookFull, Spent, GaveUp}
use Rattle.flat_queue.specs.declared.error.CallError.TheVariants as error

-- The member carried a shut out, from the journal in its hand when it released: it was answered as a Book of the queue's room and
-- bound may, so Shut exactly where that journal had a line left and a shut line (`MayDo`). Items have so many words.
pub record CarriesOutShut (words : ℕ) (before : Joined) (answer : Answer) (after : Joined) : Type 0 where
  pub carries : CarriesOutOperationBy words before Shuts answer after
  pub fits : IsAnswerBy before.queue.room Shuts answer

-- What its answer tells, and of the journal that the member knows then: that this has the line of the shut, which is replied to as
-- a pop that finds nothing; or that it was shut; or is open, and would forget a line that is not archived; or is full.
abbrev pub TellsShut : Answer → List Line → Type 0
TellsShut (Entered number reply) lines = (reply ≡ Empty) × (is_shut lines ≡ true)
TellsShut answer.BookFull lines = Unit {0}
TellsShut answer.NoMemory lines = ⊥
TellsShut (answer.Refused Shut) lines = is_shut lines ≡ true
TellsShut (answer.Refused Unarchived) lines = is_shut lines ≡ false
TellsShut (answer.Refused Full) lines = ⊥

-- what an answer comes to as the end of such a call
abbrev pub ended_shut : Answer → Result ℕ CallError
ended_shut (Entered number reply) = Ok number
ended_shut answer.BookFull = Err BookFull
ended_shut answer.NoMemory = Err NoMemory
ended_shut (answer.Refused why) = Err (error.Refused why)

-- What each refusal says: the shut has no line and the member is idle; or nothing was done, as no serial was left. None is for want
-- of memory, and none gives up.
abbrev pub IsUnshut : Joined → CallError → Joined → Type 0
IsUnshut before NoMemory after = ⊥
IsUnshut before BookFull after = HasPostedOne before (Idle None) before.pen.mine after
IsUnshut before (error.Refused why) after = IsBarredBy Shuts why × HasPostedOne before (Idle None) before.pen.mine after
IsUnshut before Spent after = (most_posts before.queue.room ≤ before.pen.posts) × (after ≡ before)
IsUnshut before GaveUp after = ⊥

-- the member found the lock held so often, and then carried the shut out
pub record MissesThenShutsBy (words : ℕ) (before : Joined) (answer : Answer) (after : Joined) : Type 0 where
  pub tries : ℕ
  pub missed : Joined
  pub misses : Misses tries before missed
  pub carries : CarriesOutShut words missed answer after
  pub tells : TellsShut answer after.pen.known

-- What such a call came to. It posts nothing, and never gives up.
-- - ok: the shut stands in the journal on the line that was told, once.
-- - err: it has no line, and the refusal says why.
-- - full: it says that the journal is full only where it was.
-- - spent: the member had no serial left exactly where the call says so.
-- - turns: else it found the lock held some times, and then carried the shut out.
pub record ShutsBy (words : ℕ) (before : Joined) (result : Result ℕ CallError) (after : Joined) : Type 0 where
  pub ok : IfOk result (λ number. IsEntered before Shuts number Empty after)
  pub err : IfErr result (λ error. IsUnshut before error after)
  pub full : IsErrOf result BookFull → IsFullFor after.pen
  pub spent : IsErrOf result Spent ↔ (most_posts before.queue.room ≤ before.pen.posts)
  pub turns : before.pen.posts < most_posts before.queue.room
      → (answer : Answer) × (result ≡ ended_shut answer) × MissesThenShutsBy words before answer after
