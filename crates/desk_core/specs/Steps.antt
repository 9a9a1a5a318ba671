-- The steps of the desk: single loads, stores and compare and exchanges, and the runs that they
-- make.
use Rattle.std.specs.Prelude.{◌≡◌, ◌≢◌, ℕ, ◌+◌, ◌<◌, ◌⊎◌, true, false, List, [], ◌∷◌, Option, Some, None}
use Rattle.pq_types.specs.Item.{Item}
use Rattle.pq_types.specs.Asked.{Request, Operation}
use Rattle.pq_types.specs.Operation.{Ticketed, Asked, ByTicket}
use Rattle.pq_types.specs.Entry.{IsProperOperationOf}
use Rattle.pq_types.specs.Asked.{Answer}
use Rattle.pq_types.specs.declared.control.Kind.TheVariants as kind
use Rattle.pq_types.specs.declared.control.Notice.{Notice}
use Rattle.pq_types.specs.declared.control.Control.TheVariants.{Answered}
use Rattle.pq_types.specs.declared.journal.TheConstants.{GREATEST_NUMBER}
use Rattle.pq_types.specs.Item.{IsItemOf}
use Rattle.pq_types.specs.Queue.{IsProperRequestOf}
use Rattle.pq_types.specs.Control.{kind_of, request_item, answer_item, notice_has_item, posted, answered}
use Rattle.pq_types.specs.History.{journal_by, MayDo, MayAnswer}
use Rattle.wait_list.specs.Waiters.{Change}
use Rattle.pq_book.specs.Book.{Volume}
use Rattle.desk_core.specs.Pen.{IsIdle, IsKept, after_draft, after_post, after_lead, after_miss, after_read, after_read_item}
use Rattle.desk_core.specs.Pen.{after_lay, after_answer, after_apply, after_archive, after_change, after_hand_out, after_release, after_release_by, after_look}
use Rattle.desk_core.specs.Pen.{after_see, after_take, book_with, book_in_hand, limits_in_hand}
use Rattle.desk_core.specs.Desk.{Desk, Has, time, with_control, with_cell, locked, freed, with_pen}
use Rattle.desk_core.specs.declared.model.Standing.TheVariants.{Idle, Waiting}
use Rattle.desk_core.specs.declared.model.Due.{Due}
use Rattle.desk_core.specs.declared.model.PenState.{PenState}

-- What a pen, named by its seat, may do: draft an item; post a request; try the lock; as the leader
-- read the mail at a place, read the item of what is due, lay the item of an answer there, answer
-- it, apply a request of its own, hear that lines are archived, change who waits, release the lock, alone or with an
-- operation of its own; look for its answer, and take its item. No order is preferred, and a pen may halt after any step.
pub data Event : Type 0 where
  Drafts : (seat : ℕ) (item : Item) → Event
  Posts : (seat : ℕ) (request : Request) → Event
  Tries : (seat : ℕ) → Event
  Reads : (seat place : ℕ) → Event
  ReadsItem : (seat : ℕ) → Event
  LaysItem : (seat : ℕ) (item : Item) → Event
  Answers : (seat : ℕ) (answer : Answer) → Event
  Applies : (seat : ℕ) (request : Request) (answer : Answer) → Event
  Archives : (seat lines : ℕ) → Event
  Changes : (seat : ℕ) (change : Change) → Event
  HandsOut : (seat : ℕ) → Event
  Releases : (seat : ℕ) → Event
  ReleasesBy : (seat : ℕ) (operation : Operation) (answer : Answer) → Event
  Looks : (seat : ℕ) → Event
  SeesItem : (seat : ℕ) → Event
  TakesItem : (seat : ℕ) → Event

-- a leader releases the lock with a request of its own
abbrev pub ReleasesWith : ℕ → Request → Answer → Event
ReleasesWith seat request answer = ReleasesBy seat (Asked request) answer

-- a leader releases the lock with this use of a ticket, a removal or a move
abbrev pub ReleasesByTicket : ℕ → Ticketed → Answer → Event
ReleasesByTicket seat ticketed answer = ReleasesBy seat (ByTicket ticketed) answer

-- whose event it is
abbrev pub actor : Event → ℕ
actor (Drafts seat x) = seat
actor (Posts seat request) = seat
actor (Tries seat) = seat
actor (Reads seat place) = seat
actor (ReadsItem seat) = seat
actor (LaysItem seat x) = seat
actor (Answers seat answer) = seat
actor (Applies seat request answer) = seat
actor (Archives seat lines) = seat
actor (Changes seat change) = seat
actor (HandsOut seat) = seat
actor (Releases seat) = seat
actor (ReleasesBy seat operation answer) = seat
actor (Looks seat) = seat
actor (SeesItem seat) = seat
actor (TakesItem seat) = seat

-- An idle pen drafts: it stores an item in its cell, and stays idle.
abbrev pub StepsDraft : Desk → ℕ → Item → Desk → Type 0
StepsDraft d seat x d' =
    (p : PenState) × Has d.views seat p × IsIdle p.standing × IsItemOf true x
    × (d' ≡ with_pen (with_cell d p.place x) seat (after_draft p x))

-- An idle pen posts a request, under the next serial; a push only where its last draft is the item.
abbrev pub StepsPost : Desk → ℕ → Request → Desk → Type 0
StepsPost d seat request d' =
    (p : PenState) × (draft : Option Item)
    × Has d.views seat p × (p.standing ≡ Idle draft) × (p.posts < GREATEST_NUMBER) × IsProperRequestOf true request
    × IsKept (request_item request) draft
    × (d' ≡ with_pen (with_control d p.place (posted (p.posts + 1) request)) seat (after_post p request (time d)))

-- A pen tries the lock: where it is free it is held then, and the pen takes the Book and leads;
-- else nothing but its own view changes.
abbrev pub StepsTry : Desk → ℕ → Desk → Type 0
StepsTry d seat d' =
    (p : PenState) × Has d.views seat p
    × (((d.held ≡ false) × ((book : Volume) × (d.home ≡ Some book) × (d' ≡ with_pen (locked d) seat (after_lead p book))))
    ⊎ ((d.held ≡ true) × (d' ≡ with_pen d seat (after_miss p))))

-- The leader reads the mail at a place: the control alone.
abbrev pub StepsRead : Desk → ℕ → ℕ → Desk → Type 0
StepsRead d seat place d' =
    (p : PenState) × Has d.views seat p × (p.leading ≡ true) × (place < d.places)
    × (d' ≡ with_pen d seat (after_read p place (d.control place)))

-- The leader reads the item of the posted push that is due.
abbrev pub StepsReadItem : Desk → ℕ → Desk → Type 0
StepsReadItem d seat d' =
    (p : PenState) × (due : Due)
    × Has d.views seat p × (p.leading ≡ true) × (p.due ≡ Some due) × (due.kind ≡ kind.Push)
    × (d' ≡ with_pen d seat (after_read_item p due (d.item due.place)))

-- The leader lays the item of an answer at the pop or least that is due.
abbrev pub StepsLayItem : Desk → ℕ → Item → Desk → Type 0
StepsLayItem d seat x d' =
    (p : PenState) × (due : Due)
    × Has d.views seat p × (p.leading ≡ true) × (p.due ≡ Some due) × (due.kind ≢ kind.Push) × IsItemOf true x
    × (d' ≡ with_pen (with_cell d due.place x) seat (after_lay p due x))

-- The leader answers what is due, as the Book in its hand may answer: a push after it has read
-- the item, and with an item that it has laid.
abbrev pub StepsAnswer : Desk → ℕ → Answer → Desk → Type 0
StepsAnswer d seat answer d' =
    (p : PenState) × (due : Due) × (request : Request)
    × Has d.views seat p × (p.leading ≡ true) × (p.due ≡ Some due)
    × (kind_of request ≡ due.kind) × IsKept (request_item request) due.item × IsKept (answer_item answer) due.item
    × MayAnswer (limits_in_hand p) p.hand request answer
    × (d' ≡ with_pen (with_control d due.place (answered answer)) seat (after_answer p due request answer))

-- A leader that is idle and has a serial left applies a request of its own, answered as the Book in its
-- hand may answer, and goes on leading: the journal in its hand has its line, if it is entered. No cell
-- changes; it loads the lock, which it holds.
abbrev pub StepsApply : Desk → ℕ → Request → Answer → Desk → Type 0
StepsApply d seat request answer d' =
    (p : PenState)
    × Has d.views seat p × (p.leading ≡ true) × IsIdle p.standing × (p.posts < GREATEST_NUMBER)
    × IsProperRequestOf true request
    × MayAnswer (limits_in_hand p) p.hand request answer
    × (d' ≡ with_pen d seat (after_apply p request answer (time d)))

-- The leader hears that the first so many lines of its journal are archived. No cell changes; it loads the
-- lock, which it holds.
abbrev pub StepsArchive : Desk → ℕ → ℕ → Desk → Type 0
StepsArchive d seat lines d' =
    (p : PenState) × Has d.views seat p × (p.leading ≡ true)
    × (d' ≡ with_pen d seat (after_archive p lines))

-- The leader changes the list of those who wait at the Book in its hand. No cell changes; it loads the lock, which it
-- holds.
abbrev pub StepsChange : Desk → ℕ → Change → Desk → Type 0
StepsChange d seat change d' =
    (p : PenState) × Has d.views seat p × (p.leading ≡ true)
    × (d' ≡ with_pen d seat (after_change p change))

-- A pen hands out the numbers that its releases have woken. No cell changes; it loads the lock.
abbrev pub StepsHandOut : Desk → ℕ → Desk → Type 0
StepsHandOut d seat d' = (p : PenState) × Has d.views seat p × (d' ≡ with_pen d seat (after_hand_out p))

-- The leader puts the Book in its hand home, once that has woken whom it is to wake, and frees the lock.
abbrev pub StepsRelease : Desk → ℕ → Desk → Type 0
StepsRelease d seat d' =
    (p : PenState) × Has d.views seat p × (p.leading ≡ true)
    × (d' ≡ with_pen (freed d (book_in_hand p)) seat (after_release p))

-- A leader to which nothing is due, and which is idle and has a serial left, releases the lock with an
-- operation of its own, answered as the Book in its hand may answer: that Book goes home with its line, if it
-- is entered, once it has woken whom it is to wake.
abbrev pub StepsReleaseBy : Desk → ℕ → Operation → Answer → Desk → Type 0
StepsReleaseBy d seat operation answer d' =
    (p : PenState)
    × Has d.views seat p × (p.leading ≡ true) × (p.due ≡ None) × IsIdle p.standing × (p.posts < GREATEST_NUMBER)
    × IsProperOperationOf true operation
    × MayDo (limits_in_hand p) p.hand operation answer
    × (d' ≡ with_pen (freed d (book_with p (journal_by p.hand p.place (p.posts + 1) operation answer))) seat
    (after_release_by p operation answer (time d)))

-- A pen that waits looks at the control of its own place.
abbrev pub StepsLook : Desk → ℕ → Desk → Type 0
StepsLook d seat d' =
    (p : PenState) × (request : Request) × Has d.views seat p × (p.standing ≡ Waiting request)
    × (d' ≡ with_pen d seat (after_look p request (d.control p.place) (time d)))

-- A pen that waits, and knows that its control is an answer with an item, reads a word of the item in
-- its cell, of which there is more to read.
abbrev pub StepsSeeItem : Desk → ℕ → Desk → Type 0
StepsSeeItem d seat d' =
    (p : PenState) × (request : Request) × (notice : Notice)
    × Has d.views seat p × (p.standing ≡ Waiting request) × (p.own ≡ Answered notice) × (notice_has_item notice ≡ true)
    × (d' ≡ with_pen d seat (after_see p (d.item p.place)))

-- A pen that waits, and knows that its control is an answer with an item, takes the item from its
-- cell.
abbrev pub StepsTakeItem : Desk → ℕ → Desk → Type 0
StepsTakeItem d seat d' =
    (p : PenState) × (request : Request) × (notice : Notice)
    × Has d.views seat p × (p.standing ≡ Waiting request) × (p.own ≡ Answered notice) × (notice_has_item notice ≡ true)
    × (d' ≡ with_pen d seat (after_take p request notice (d.item p.place) (time d)))

-- the event leads from the first desk to the second: one atomic step on one word, after which only
-- the acting pen's view is another
abbrev pub Step : Desk → Event → Desk → Type 0
Step d (Drafts seat x) d' = StepsDraft d seat x d'
Step d (Posts seat request) d' = StepsPost d seat request d'
Step d (Tries seat) d' = StepsTry d seat d'
Step d (Reads seat place) d' = StepsRead d seat place d'
Step d (ReadsItem seat) d' = StepsReadItem d seat d'
Step d (LaysItem seat x) d' = StepsLayItem d seat x d'
Step d (Answers seat answer) d' = StepsAnswer d seat answer d'
Step d (Applies seat request answer) d' = StepsApply d seat request answer d'
Step d (Archives seat lines) d' = StepsArchive d seat lines d'
Step d (Changes seat change) d' = StepsChange d seat change d'
Step d (HandsOut seat) d' = StepsHandOut d seat d'
Step d (Releases seat) d' = StepsRelease d seat d'
Step d (ReleasesBy seat operation answer) d' = StepsReleaseBy d seat operation answer d'
Step d (Looks seat) d' = StepsLook d seat d'
Step d (SeesItem seat) d' = StepsSeeItem d seat d'
Step d (TakesItem seat) d' = StepsTakeItem d seat d'

-- these events, the first of the list first, lead from the first desk to the second
abbrev pub Run : Desk → List Event → Desk → Type 0
Run d [] d' = d' ≡ d
Run d (e ∷ es) d' = (m : Desk) × Step d e m × Run m es d'
