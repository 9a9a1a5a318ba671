-- One fact for each kind of step, in the form in which a table of atomic words asks for it: from
-- any desk that meets the rule, with what stands at the acting pen's seat, to the next.
use Rattle.std.specs.Prelude.{◌≡◌, ◌≢◌, ℕ, ◌+◌, ◌<◌, ◌≤◌, true, false, Option, Some, None}
use Rattle.std.specs.List.{AllByRecursion}
use Rattle.pq_types.specs.Item.{Item}
use Rattle.pq_types.specs.Asked.{Request, Operation}
use Rattle.pq_types.specs.Entry.{IsProperOperationOf}
use Rattle.pq_types.specs.Asked.{Answer}
use Rattle.pq_types.specs.declared.control.Kind.TheVariants as kind
use Rattle.pq_types.specs.declared.control.Notice.{Notice}
use Rattle.pq_types.specs.declared.control.Control.TheVariants.{Answered}
use Rattle.pq_types.specs.declared.journal.TheConstants.{GREATEST_NUMBER}
use Rattle.pq_types.specs.Queue.{IsProperRequestOf}
use Rattle.pq_types.specs.Control.{kind_of, request_item, answer_item, posted, answered, is_answer}
use Rattle.pq_types.specs.History.{journal_by, MayDo, MayAnswer}
use Rattle.wait_list.specs.Waiters.{Change}
use Rattle.pq_book.specs.Book.{Volume}
use Rattle.pq_types.specs.Mail.{IsSerial, IsProperAnswerOf, IsProperControl}
use Rattle.desk_core.specs.Pen.{IsIdle, IsKept, after_draft, after_post, after_lead, after_miss, after_read, after_read_item}
use Rattle.desk_core.specs.Pen.{after_lay, after_answer, after_apply, after_release, after_release_by}
use Rattle.desk_core.specs.Pen.{after_archive, after_change, after_hand_out, after_look, after_see, after_take, book_with, book_in_hand, limits_in_hand}
use Rattle.desk_core.specs.Desk.{Desk, Has, with_control, with_cell, locked, freed, with_pen}
use Rattle.desk_core.specs.Rule.{MeetsRule}
use Rattle.desk_core.specs.declared.model.Standing.TheVariants.{Idle, Waiting}
use Rattle.desk_core.specs.declared.model.Due.{Due}
use Rattle.desk_core.specs.declared.model.PenState.{PenState}

-- what follows holds of each pen of each desk that meets the rule
abbrev pub OfEachPen : (Desk → ℕ → PenState → Type 0) → Type 0
OfEachPen F = (d : Desk) (seat : ℕ) (p : PenState) → MeetsRule d → Has d.views seat p → F d seat p

-- an idle pen may draft any item
abbrev pub DraftKeeps : Type 0
DraftKeeps = OfEachPen (λ d seat p.
    (x : Item) → IsIdle p.standing → MeetsRule (with_pen (with_cell d p.place x) seat (after_draft p x)))

-- an idle pen may post a proper request, as long as it has serials left; a push where its draft is
-- the item
abbrev pub PostKeeps : Type 0
PostKeeps = OfEachPen (λ d seat p.
    (request : Request) (draft : Option Item) (now : ℕ) → p.standing ≡ Idle draft → p.posts < GREATEST_NUMBER
    → IsProperRequestOf true request
    → IsKept (request_item request) draft
    → MeetsRule (with_pen (with_control d p.place (posted (p.posts + 1) request)) seat (after_post p request now)))

-- a pen that finds the lock free finds the Book at home, which has the desk's room, and may lead with it
abbrev pub LeadKeeps : Type 0
LeadKeeps = OfEachPen (λ d seat p. d.held ≡ false
    → (book : Volume) × (d.home ≡ Some book) × (book.room ≡ d.room)
    × MeetsRule (with_pen (locked d) seat (after_lead p book)))

-- a pen may find the lock held
abbrev pub MissKeeps : Type 0
MissKeeps = OfEachPen (λ d seat p. MeetsRule (with_pen d seat (after_miss p)))

-- a leader may read the mail at any place
abbrev pub ReadKeeps : Type 0
ReadKeeps = OfEachPen (λ d seat p.
    (place : ℕ) → p.leading ≡ true → MeetsRule (with_pen d seat (after_read p place (d.control place))))

-- it may read the item of what is due
abbrev pub ReadItemKeeps : Type 0
ReadItemKeeps = OfEachPen (λ d seat p.
    (due : Due) → p.due ≡ Some due → MeetsRule (with_pen d seat (after_read_item p due (d.item due.place))))

-- it may lay any item at a pop or least that is due
abbrev pub LayItemKeeps : Type 0
LayItemKeeps = OfEachPen (λ d seat p. (due : Due) (x : Item) → p.due ≡ Some due → due.kind ≢ kind.Push
    → MeetsRule (with_pen (with_cell d due.place x) seat (after_lay p due x)))

-- it may answer what is due, with the item that it knows, as the Book in its hand may
abbrev pub AnswerKeeps : Type 0
AnswerKeeps = OfEachPen (λ d seat p.
    (due : Due) (request : Request) (answer : Answer) → p.due ≡ Some due → kind_of request ≡ due.kind
    → IsKept (request_item request) due.item → IsKept (answer_item answer) due.item → MayAnswer (limits_in_hand p) p.hand request answer
    → MeetsRule (with_pen (with_control d due.place (answered answer)) seat (after_answer p due request answer)))

-- a leader that is idle and has a serial left may apply a proper request of its own, answered as the Book
-- in its hand may
abbrev pub ApplyKeeps : Type 0
ApplyKeeps = OfEachPen (λ d seat p.
    (request : Request) (answer : Answer) (now : ℕ) → p.leading ≡ true → IsIdle p.standing → p.posts < GREATEST_NUMBER
    → IsProperRequestOf true request → MayAnswer (limits_in_hand p) p.hand request answer
    → MeetsRule (with_pen d seat (after_apply p request answer now)))

-- it may hear that lines are archived
abbrev pub ArchiveKeeps : Type 0
ArchiveKeeps = OfEachPen (λ d seat p. (lines : ℕ) → p.leading ≡ true → MeetsRule (with_pen d seat (after_archive p lines)))

-- it may change who waits at the Book in its hand
abbrev pub ChangeKeeps : Type 0
ChangeKeeps = OfEachPen (λ d seat p. (change : Change) → p.leading ≡ true → MeetsRule (with_pen d seat (after_change p change)))

-- a pen may hand out the numbers that its releases have woken
abbrev pub HandOutKeeps : Type 0
HandOutKeeps = OfEachPen (λ d seat p. MeetsRule (with_pen d seat (after_hand_out p)))

-- a leader may release
abbrev pub ReleaseKeeps : Type 0
ReleaseKeeps = OfEachPen (λ d seat p. p.leading ≡ true
    → MeetsRule (with_pen (freed d (book_in_hand p)) seat (after_release p)))

-- a leader to which nothing is due, idle and with a serial left, may release with a proper operation of
-- its own, answered as the Book in its hand may
abbrev pub ReleaseByKeeps : Type 0
ReleaseByKeeps = OfEachPen (λ d seat p.
    (operation : Operation) (answer : Answer) (now : ℕ) → p.leading ≡ true → p.due ≡ None → IsIdle p.standing
    → p.posts < GREATEST_NUMBER → IsProperOperationOf true operation → MayDo (limits_in_hand p) p.hand operation answer
    → MeetsRule
    (with_pen (freed d (book_with p (journal_by p.hand p.place (p.posts + 1) operation answer))) seat
    (after_release_by p operation answer now)))

-- a pen that waits may look
abbrev pub LookKeeps : Type 0
LookKeeps = OfEachPen (λ d seat p. (request : Request) (now : ℕ) → p.standing ≡ Waiting request
    → MeetsRule (with_pen d seat (after_look p request (d.control p.place) now)))

-- it may read a word of the item of the answer that it has seen
abbrev pub SeeItemKeeps : Type 0
SeeItemKeeps = OfEachPen (λ d seat p. (request : Request) → p.standing ≡ Waiting request → is_answer p.own ≡ true
    → MeetsRule (with_pen d seat (after_see p (d.item p.place))))

-- it may take the item of the answer that it has seen
abbrev pub TakeItemKeeps : Type 0
TakeItemKeeps = OfEachPen (λ d seat p.
    (request : Request) (notice : Notice) (now : ℕ) → p.standing ≡ Waiting request → p.own ≡ Answered notice
    → MeetsRule (with_pen d seat (after_take p request notice (d.item p.place) now)))

-- A pen has a place of the desk, knows the journal's room, and its posts have serials.
pub record IsSeated (d : Desk) (p : PenState) : Type 0 where
  pub inside : p.place < d.places
  pub room : p.room ≡ d.room
  pub posts : p.posts ≤ GREATEST_NUMBER

abbrev pub PensAreSeated : Type 0
PensAreSeated = OfEachPen (λ d seat p. IsSeated d p)

-- What is due at a place of the desk has a proper serial, above that of each line of its place in
-- the leader's hand, and at the leader's own place it is its last; a request that is known by its
-- kind and item is proper. This is what a Book asks of whoever applies it. What it may answer then
-- is proper, and so is its control.
pub record IsNew (d : Desk) (p : PenState) (due : Due) : Type 0 where
  pub inside : due.place < d.places
  pub serial : IsSerial due.serial
  pub above : AllByRecursion (λ l. due.place ≡ l.place → l.serial < due.serial) p.hand
  pub own : due.place ≡ p.place → due.serial ≡ p.posts
  pub proper : (request : Request) → kind_of request ≡ due.kind → IsKept (request_item request) due.item
      → IsProperRequestOf true request
  pub answers : (request : Request) (answer : Answer) → MayAnswer (limits_in_hand p) p.hand request answer
      → IsProperAnswerOf true answer × IsProperControl (answered answer)

abbrev pub DueIsNew : Type 0
DueIsNew = OfEachPen (λ d seat p. (due : Due) → p.due ≡ Some due → IsNew d p due)
