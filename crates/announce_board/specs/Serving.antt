-- What the calls of a pen that leads make of it and of its Book.
use Rattle.std.specs.Prelude.{◌≡◌, ◌≢◌, ℕ, ◌+◌, ◌<◌, Bool, true, false, Option, Some, None}
use Rattle.std.specs.List.{AllByRecursion}
use Rattle.atomic_table.specs.Seated.{TableId}
use Rattle.pq_types.specs.Item.{Item}
use Rattle.pq_types.specs.Asked.{Request}
use Rattle.pq_types.specs.declared.request.Request.TheVariants.{Push, Pop, Least}
use Rattle.pq_types.specs.Asked.{Answer}
use Rattle.pq_types.specs.declared.control.Kind.TheVariants as kind
use Rattle.pq_types.specs.declared.control.Control.{Control}
use Rattle.pq_types.specs.Control.{kind_of, request_item, answer_item, posted, is_posted, is_answer}
use Rattle.pq_types.specs.History.{journal_after, MayAnswer}
use Rattle.pq_book.specs.Book.{Volume}
use Rattle.pq_types.specs.Mail.{IsSerial}
use Rattle.desk_core.specs.Knows.{Knows}
use Rattle.desk_core.specs.Layout.{item_at}
use Rattle.desk_core.specs.Pen.{IsKept, due_to, with_known, after_lead, after_read, after_answer, book_with, book_in_hand, limits_in_hand}
use Rattle.desk_core.specs.declared.model.Standing.TheVariants.{Waiting}
use Rattle.desk_core.specs.declared.model.Due.{Due}
use Rattle.desk_core.specs.declared.model.PenState.{PenState}
use Rattle.desk_core.specs.declared.model.View.TheVariants.{Holder}
use Rattle.announce_board.specs.ItemWords.{read_by, laid_by}
use Rattle.announce_board.specs.Rule.{Seated}
use Rattle.announce_board.specs.Steps.{pen_at}

-- The pen has won the lock. It did not lead, and has this Book in its hand, of whose journal it
-- knows what each pen knows of the journal at home.
pub record Wins (p : PenState) (book : Volume) (p' : PenState) : Type 0 where
  pub room : book.room ≡ p.room
  pub led_not : p.leading ≡ false
  pub knows : Knows p.room p book.journal
  pub next : p' ≡ after_lead p book

-- the leader has read this request posted at this place: the control, and then the item of a push,
-- of so many words, a step for each
abbrev pub found_posted_by : ℕ → PenState → ℕ → ℕ → Request → PenState
found_posted_by words p place serial (Push x) =
    read_by words (after_read p place (posted serial (Push x))) (due_to place serial kind.Push None) x
found_posted_by words p place serial Pop = after_read p place (posted serial Pop)
found_posted_by words p place serial Least = after_read p place (posted serial Least)

-- what is due then
abbrev pub due_of : ℕ → ℕ → Request → Due
due_of place serial request = due_to place serial (kind_of request) (request_item request)

-- the leader has answered what is due: it has laid the item of the answer first, if there is one,
-- a step for each word
abbrev pub laid_and_answered_by : ℕ → Option Item → PenState → Due → Request → Answer → PenState
laid_and_answered_by words None p due request answer = after_answer p due request answer
laid_and_answered_by words (Some x) p due request answer = after_answer (laid_by words p due x) (with_known due x) request answer

-- the leader has read this request at this place, and given it this answer; items have so many words
abbrev pub served_by : ℕ → PenState → ℕ → ℕ → Request → Answer → PenState
served_by words p place serial request answer =
    laid_and_answered_by words (answer_item answer) (found_posted_by words p place serial request)
    (due_of place serial request) request answer

-- A request stood posted there, and has its answer.
-- The serial is above each of that place in the journal in hand; the answer is one that the Book in
-- hand may give, and the Book has what the answer leaves. At the leader's own place the serial is its
-- last, and the request the one for which it waits.
pub record ServesBy (words place : ℕ) (p : PenState) (p' : PenState) (book : Volume) : Type 0 where
  pub serial : ℕ
  pub request : Request
  pub answer : Answer
  pub in_range : IsSerial serial
  pub above : AllByRecursion (λ l. place ≡ l.place → l.serial < serial) p.hand
  pub may : MayAnswer (limits_in_hand p) p.hand request answer
  pub next : p' ≡ served_by words p place serial request answer
  pub book_is : book ≡ book_with p (journal_after p.hand place serial request answer)
  pub last : place ≡ p.place → serial ≡ p.posts
  pub own : (asked : Request) → place ≡ p.place → p.standing ≡ Waiting asked → (serial ≡ p.posts) × (request ≡ asked)

-- No request stood posted there: the control was read, and nothing else is another. At the leader's
-- own place, where it waits, it was an answer.
pub record Passes (place : ℕ) (p : PenState) (p' : PenState) (book : Volume) : Type 0 where
  pub control : Control
  pub not_posted : is_posted control ≡ false
  pub next : p' ≡ after_read p place control
  pub book_is : book ≡ book_in_hand p
  pub own : (asked : Request) → place ≡ p.place → p.standing ≡ Waiting asked → is_answer control ≡ true

abbrev pub ServesWhereBy : ℕ → Bool → ℕ → PenState → PenState → Volume → Type 0
ServesWhereBy words true place p p' book = ServesBy words place p p' book
ServesWhereBy words false place p p' book = Passes place p p' book

-- a request that stood posted there was not given this answer
abbrev pub ServesOtherThanBy : ℕ → Answer → ℕ → PenState → PenState → Volume → Type 0
ServesOtherThanBy words answer place p p' book = (serves : ServesBy words place p p' book) → serves.answer ≢ answer

-- the seat is that of a pen that leads, and this place of the desk has words in its table
pub record IsServing (table : TableId) (places : ℕ) (m : Seated) (place : ℕ) : Type 0 where
  pub is : m.0 ≡ Holder (pen_at m)
  pub leads : (pen_at m).leading ≡ true
  pub within : place < places
  pub inside : item_at place + 1 < table.words

-- this answer may be stored for what is due: the leader knows the request by its kind and item, and
-- has laid the item of the answer, if there is one
pub record IsDueFor (p : PenState) (place : ℕ) (request : Request) (answer : Answer) (due : Due) : Type 0 where
  pub is_due : p.due ≡ Some due
  pub here : due.place ≡ place
  pub kind : kind_of request ≡ due.kind
  pub known : IsKept (request_item request) due.item
  pub laid : IsKept (answer_item answer) due.item

-- The leader has read the record of this place. A request stood posted there, and it knows it with
-- its item; or none did.
pub record FindsPosted (words place : ℕ) (p : PenState) (serial : ℕ) (request : Request) (p' : PenState) : Type 0 where
  pub in_range : IsSerial serial
  pub above : AllByRecursion (λ l. place ≡ l.place → l.serial < serial) p.hand
  pub next : p' ≡ found_posted_by words p place serial request
  pub last : place ≡ p.place → serial ≡ p.posts
  pub own : (asked : Request) → place ≡ p.place → p.standing ≡ Waiting asked → (serial ≡ p.posts) × (request ≡ asked)

pub record FindsNone (place : ℕ) (p : PenState) (p' : PenState) : Type 0 where
  pub control : Control
  pub not_posted : is_posted control ≡ false
  pub next : p' ≡ after_read p place control
  pub own : (asked : Request) → place ≡ p.place → p.standing ≡ Waiting asked → is_answer control ≡ true

abbrev pub Finds : ℕ → ℕ → PenState → Option (ℕ × Request) → PenState → Type 0
Finds words place p None p' = FindsNone place p p'
Finds words place p (Some found) p' = FindsPosted words place p found.0 found.1 p'

-- The same of narrow items, which have one word.
abbrev pub found_posted : PenState → ℕ → ℕ → Request → PenState
found_posted = found_posted_by 1

abbrev pub laid_and_answered : Option Item → PenState → Due → Request → Answer → PenState
laid_and_answered = laid_and_answered_by 1

abbrev pub served : PenState → ℕ → ℕ → Request → Answer → PenState
served = served_by 1

abbrev pub Serves : ℕ → PenState → PenState → Volume → Type 0
Serves = ServesBy 1

abbrev pub ServesWhere : Bool → ℕ → PenState → PenState → Volume → Type 0
ServesWhere = ServesWhereBy 1

abbrev pub ServesOtherThan : Answer → ℕ → PenState → PenState → Volume → Type 0
ServesOtherThan = ServesOtherThanBy 1
