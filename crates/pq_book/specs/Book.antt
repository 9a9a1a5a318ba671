-- What a contract sees of a Book, and runs of requests on one.
use Rattle.std.specs.Prelude.{Bool, ◌≡◌, ℕ, ◌+◌, ◌<◌, ◌≤◌, List, [], ◌∷◌, ◌++◌}
use Rattle.pq_types.specs.Asked.{Request}
use Rattle.pq_types.specs.Asked.{Reply}
use Rattle.pq_types.specs.Asked.{Answer}
use Rattle.pq_types.specs.declared.answer.Answer.TheVariants.{Entered, BookFull, NoMemory, Refused}
use Rattle.pq_types.specs.Asked.{Line}
use Rattle.pq_types.specs.declared.journal.TheConstants.{MOST_LINES, GREATEST_NUMBER}
use Rattle.pq_types.specs.Queue.{IsProperReplyOf}
use Rattle.pq_types.specs.History.{last_serial, journal_after, Limits, MayAnswer}
use Rattle.wait_list.specs.declared.waiter.Waiter.{Waiter}
use Rattle.leftist_heap.specs.declared.store.TheConstants.{MOST_ITEMS}
use Rattle.pq_book.specs.declared.book.BookError.{BookError}
use Rattle.pq_book.specs.declared.book.BookError.TheVariants.{LinesOutOfRange, NoMemory as OutOfMemory}

-- how many lines a Book has room for, how many items pushes may leave in it, how many lines its journal may have until more
-- are archived, its journal, and who waits
pub record Volume : Type 0 where
  pub room : ℕ
  pub bound : ℕ
  pub allowed : ℕ
  pub journal : List Line
  pub waiters : List Waiter

-- the limits of these three numbers
abbrev pub limits : ℕ → ℕ → ℕ → Limits
limits room bound allowed = record { room = room; bound = bound; allowed = allowed }

abbrev pub limits_of : Volume → Limits
limits_of book = limits book.room book.bound book.allowed

-- The Book has no bound, and forgets: until it is shut, it refuses nothing but for room and memory.
abbrev pub IsPlain : Volume → Type 0
IsPlain book = (book.bound ≡ book.room + 1) × (book.allowed ≡ book.room)

-- the Book keeps its constants, and who waits
abbrev pub KeepsTerms : Volume → Volume → Type 0
KeepsTerms old new = (new.room ≡ old.room) × (new.bound ≡ old.bound) × (new.waiters ≡ old.waiters)

-- a number of lines that a short journal may have room for, which is kept whole
abbrev pub IsRoom : ℕ → Type 0
IsRoom lines = (0 < lines) × (lines ≤ MOST_LINES)

-- a number of lines that a journal may have room for
abbrev pub IsLongRoom : ℕ → Type 0
IsLongRoom room = (0 < room) × (room ≤ GREATEST_NUMBER)

-- Every store of a kind has room for so many items, which are no more than a store may have: the
-- argument says how many each has room for.
abbrev pub AllHaveRoom : {S : Type 0} → (S → ℕ) → ℕ → Type 0
AllHaveRoom {S} room count = (count ≤ MOST_ITEMS) × ((s : S) → count ≤ room s)

-- an answer with the number of a line of a journal with this room, and an item in the range, of wide
-- items or of narrow ones
abbrev pub IsAnswerWithin : Bool → ℕ → Answer → Type 0
IsAnswerWithin wide room (Entered number reply) = (0 < number) × (number ≤ room) × IsProperReplyOf wide reply
IsAnswerWithin wide room BookFull = Unit {0}
IsAnswerWithin wide room NoMemory = Unit {0}
IsAnswerWithin wide room (Refused refusal) = Unit {0}

-- the answer is a refusal, and not for want of memory
abbrev pub IsBar : Answer → Type 0
IsBar (Entered number reply) = ⊥
IsBar BookFull = Unit {0}
IsBar NoMemory = ⊥
IsBar (Refused refusal) = Unit {0}

-- the number of each refusal
abbrev pub book_code : BookError → ℕ
book_code LinesOutOfRange = 5
book_code OutOfMemory = 6

-- a request from a place, with its serial and its answer, and how many lines were allowed then
pub record Dealing : Type 0 where
  pub allowed : ℕ
  pub place : ℕ
  pub serial : ℕ
  pub request : Request
  pub answer : Answer

-- A Book with this room, bound and journal may answer these requests so, one after another, and then has
-- the journal `after`. Each request comes with a serial above those of its place.
abbrev pub MayDeal : ℕ → ℕ → List Line → List Dealing → List Line → Type 0
MayDeal room bound journal [] after = after ≡ journal
MayDeal room bound journal (d ∷ ds) after =
    (last_serial d.place journal < d.serial) × MayAnswer (limits room bound d.allowed) journal d.request d.answer
    × MayDeal room bound (journal_after journal d.place d.serial d.request d.answer) ds after

-- a request from this place and under this serial, which was answered so
abbrev pub dealing : ℕ → ℕ → ℕ → Request → Answer → Dealing
dealing allowed place serial request answer =
    record { allowed = allowed; place = place; serial = serial; request = request; answer = answer }

-- A run of dealings and another that goes on from its journal are one run: so whoever calls `apply`
-- again and again makes one.
abbrev pub RunsJoin : Type 0
RunsJoin =
    (room bound : ℕ) (journal middle after : List Line) (first then : List Dealing)
    → MayDeal room bound journal first middle → MayDeal room bound middle then after
    → MayDeal room bound journal (first ++ then) after

-- the request x before the others, where the answer enters it
abbrev pub with_entered : {X : Type 0} → Answer → X → List X → List X
with_entered (Entered line reply) x xs = x ∷ xs
with_entered BookFull x xs = xs
with_entered NoMemory x xs = xs
with_entered (Refused refusal) x xs = xs

-- the reply before the others, where the answer has one
abbrev pub with_reply : Answer → List Reply → List Reply
with_reply (Entered line reply) replies = reply ∷ replies
with_reply BookFull replies = replies
with_reply NoMemory replies = replies
with_reply (Refused refusal) replies = replies

-- the requests that were entered, in their order
abbrev pub entered_requests : List Dealing → List Request
entered_requests [] = []
entered_requests (d ∷ ds) = with_entered d.answer d.request (entered_requests ds)

-- their replies
abbrev pub entered_replies : List Dealing → List Reply
entered_replies [] = []
entered_replies (d ∷ ds) = with_reply d.answer (entered_replies ds)
