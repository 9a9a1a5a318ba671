-- Batches: several requests of its own that a member applies under one lock.
use Rattle.std.specs.Prelude.{◌≡◌, ℕ, ◌+◌, ◌<◌, ◌≤◌, nat_le, if◌then◌else◌, Bool, true, false}
use Rattle.std.specs.Prelude.{List, [], ◌∷◌, ◌++◌, length, map, slice_get, Option, Some, None}
use Rattle.pq_types.specs.Asked.{Request}
use Rattle.pq_types.specs.Asked.{Answer}
use Rattle.pq_types.specs.declared.answer.Answer.TheVariants.{Entered}
use Rattle.pq_types.specs.declared.answer.Answer.TheVariants as answer
use Rattle.pq_types.specs.Asked.{Line}
use Rattle.pq_types.specs.History.{line, Limits, MayAnswer}
use Rattle.pq_book.specs.Book.{Volume}
use Rattle.desk_core.specs.Calls.{call}
use Rattle.desk_core.specs.Pen.{after_apply, after_release, book_in_hand, limits_in_hand}
use Rattle.desk_core.specs.declared.model.Call.{Call}
use Rattle.desk_core.specs.declared.model.PenState.{PenState}
pub use Rattle.announce_board.specs.Batches.{Told, pushes_of, pops_of, AppliesEach, IsPushAt, IsPop, is_first_due}
use Rattle.announce_board.specs.Asking.{IsFullFor}
use Rattle.announce_board.specs.Serving.{Wins}
use Rattle.announce_board.specs.Slots.{MeetsTerms}
use Rattle.announce_board.specs.Tokens.{is_idle}
use Rattle.flat_queue.specs.Members.{Joined, StaysAtPlace}
use Rattle.flat_queue.specs.Limits.{most_posts}
use Rattle.flat_queue.specs.Calling.{StaysMember}
use Rattle.flat_queue.specs.OwnRequest.{SweepsWhereBy}
use Rattle.flat_queue.specs.Turns.{Misses}
use Rattle.flat_queue.specs.declared.error.CallError.{CallError}
use Rattle.flat_queue.specs.declared.error.CallError.TheVariants.{NoMemory, BookFull, Spent, GaveUp}
use Rattle.flat_queue.specs.declared.error.CallError.TheVariants as error
use Rattle.flat_queue.specs.declared.batches.Batch.{Batch}
use Rattle.flat_queue.specs.declared.batches.TheConstants.{MOST_BATCH}

-- Why it applied no more: nothing refused it; or the next request, of which this holds, was so answered, and has no line; or no
-- serial was left, of so many.
abbrev pub EndsBatch : Limits → ℕ → (is_next : Request → Type 0) → PenState → Option CallError → PenState → Type 0
EndsBatch limits most is_next p None q = q ≡ p
EndsBatch limits most is_next p (Some NoMemory) q =
    (request : Request) × is_next request × (now : ℕ) × MayAnswer limits p.hand request answer.NoMemory
    × (q ≡ after_apply p request answer.NoMemory now)
EndsBatch limits most is_next p (Some BookFull) q =
    (request : Request) × is_next request × (now : ℕ) × MayAnswer limits p.hand request answer.BookFull
    × (q ≡ after_apply p request answer.BookFull now)
EndsBatch limits most is_next p (Some (error.Refused why)) q =
    (request : Request) × is_next request × (now : ℕ) × MayAnswer limits p.hand request (answer.Refused why)
    × (q ≡ after_apply p request (answer.Refused why) now)
EndsBatch limits most is_next p (Some Spent) q = (most ≤ p.posts) × (q ≡ p)
EndsBatch limits most is_next p (Some GaveUp) q = ⊥

-- it applied these, and no more
abbrev pub AppliesBatch : Limits → ℕ → (is_next : Request → Type 0) → PenState → List Told → Option CallError → PenState → Type 0
AppliesBatch limits most is_next p told refused q =
    (m : PenState) × AppliesEach limits p told m × EndsBatch limits most is_next m refused q

-- no request was entered by this answer
abbrev pub IsNoEntry : Option Answer → Type 0
IsNoEntry None = Unit {0}
IsNoEntry (Some (Entered number reply)) = ⊥
IsNoEntry (Some answer.BookFull) = Unit {0}
IsNoEntry (Some answer.NoMemory) = Unit {0}
IsNoEntry (Some (answer.Refused why)) = Unit {0}

-- why a batch ended whose next request was so answered, or was none, where no serial was left or one was
abbrev pub why_of : Option Answer → Bool → Option CallError
why_of None false = None
why_of None true = Some Spent
why_of (Some (Entered number reply)) spent = Some GaveUp
why_of (Some answer.BookFull) spent = Some BookFull
why_of (Some answer.NoMemory) spent = Some NoMemory
why_of (Some (answer.Refused why)) spent = Some (error.Refused why)

-- The leader applied these requests of its own, as the limits of the Book in its hand say, which meets the queue's terms. The
-- first has the line that the batch tells. Then it released. It posted nothing.
pub record ReleasesBatch (before : Joined) (told : List Told) (is_next : Request → Type 0) (batch : Batch)
    (after : Joined) : Type 0 where
  pub ended : PenState
  pub terms : MeetsTerms before.queue.terms (book_in_hand before.pen)
  pub first : batch.first ≡ length before.pen.hand + 1
  pub applies : AppliesBatch (limits_in_hand before.pen) (most_posts before.queue.room) is_next before.pen told batch.refused ended
  pub after_is : after ≡ record before { pen = after_release ended }

-- The member won the lock, served the others where it read that somebody had posted, and released with these requests of its
-- own. Items have so many words.
pub record CarriesOutBatchBy (words : ℕ) (before : Joined) (told : List Told) (is_next : Request → Type 0) (batch : Batch)
    (after : Joined) : Type 0 where
  pub book : Volume
  pub led : Joined
  pub ready : Joined
  pub won : Wins before.pen book led.pen
  pub stays : StaysAtPlace before led
  pub hinted : Bool
  pub sweeps : SweepsWhereBy words hinted led ready
  pub released : ReleasesBatch ready told is_next batch after

-- the member found the lock held so often, and then it did so
pub record MissesThenBatchBy (words : ℕ) (before : Joined) (told : List Told) (is_next : Request → Type 0) (batch : Batch)
    (after : Joined) : Type 0 where
  pub tries : ℕ
  pub missed : Joined
  pub misses : Misses tries before missed
  pub carries : CarriesOutBatchBy words missed told is_next batch after

-- how many of so many requests one batch carries out, if none is refused
abbrev pub in_one_batch : ℕ → ℕ
in_one_batch requests = if nat_le requests MOST_BATCH then requests else MOST_BATCH

-- the calls of a batch, from this line and this serial on
abbrev pub batch_calls : ℕ → ℕ → List Told → List Call
batch_calls number serial [] = []
batch_calls number serial (t ∷ ts) = call number serial t.0 t.1 ∷ batch_calls (number + 1) (serial + 1) ts

-- and their lines
abbrev pub batch_lines : ℕ → ℕ → List Told → List Line
batch_lines place serial [] = []
batch_lines place serial (t ∷ ts) = line place serial t.0 t.1 ∷ batch_lines place (serial + 1) ts

-- how many serials a refusal takes
abbrev pub refusals : Option CallError → ℕ
refusals None = 0
refusals (Some NoMemory) = 1
refusals (Some BookFull) = 1
refusals (Some (error.Refused why)) = 1
refusals (Some Spent) = 0
refusals (Some GaveUp) = 0

-- these positions, each with the serial of its call, which are this one and those behind it
abbrev pub with_serials : ℕ → List ℕ → List (ℕ × ℕ)
with_serials serial [] = []
with_serials serial (n ∷ ns) = (serial, n) ∷ with_serials (serial + 1) ns

-- The pen keeps the positions at which the calls of its next so many serials began and ended, each in one step.
pub record KeepsBatchTimes (before after : PenState) (calls : ℕ) : Type 0 where
  pub began : List ℕ
  pub number : length began ≡ calls
  pub begins : after.begins ≡ before.begins ++ with_serials (before.posts + 1) began
  pub ends : after.ends ≡ before.ends ++ with_serials (before.posts + 1) (map (λ n. n + 1) began)

-- What a batch comes to. It has no part of another's between: the journal, which the member knows now, ends with its lines,
-- which stand there together, from the first one on, in the order of its requests. Each has a serial, and so has a request that
-- was refused behind them; the member is idle, and has these calls more. They are behind all that it knew. That the journal is
-- full it is told only where it is. It keeps when each began and ended.
pub record EntersTogether (before : Joined) (told : List Told) (batch : Batch) (after : Joined) : Type 0 where
  pub stays : StaysMember before after
  pub posts : after.pen.posts ≡ before.pen.posts + length told + refusals batch.refused
  pub idle : is_idle after.pen.standing ≡ true
  pub mine : after.pen.mine ≡ before.pen.mine ++ batch_calls batch.first (before.pen.posts + 1) told
  pub earlier : List Line
  pub first : batch.first ≡ length earlier + 1
  pub together : after.pen.known ≡ earlier ++ batch_lines before.pen.place (before.pen.posts + 1) told
  pub beyond : length before.pen.known < batch.first
  pub full : batch.refused ≡ Some BookFull → IsFullFor after.pen
  pub times : KeepsBatchTimes before.pen after.pen (length told + refusals batch.refused)
