-- Steps that the desk does not allow, each beside the guard that it lacks (specs/Steps.antt has the right ones).
use Rattle.std.specs.Prelude.{◌≡◌, ℕ, ◌+◌, ◌<◌, true, false, [], Option, Some}
use Rattle.pq_types.specs.Item.{Item}
use Rattle.pq_types.specs.Asked.{Request}
use Rattle.pq_types.specs.Asked.{Answer}
use Rattle.pq_types.specs.declared.control.Notice.{Notice}
use Rattle.pq_types.specs.declared.journal.TheConstants.{GREATEST_NUMBER}
use Rattle.pq_types.specs.Item.{IsItemOf}
use Rattle.pq_types.specs.Queue.{IsProperRequestOf}
use Rattle.pq_types.specs.Control.{kind_of, request_item, answer_item, notice_has_item, posted, answered, is_answer}
use Rattle.pq_types.specs.History.{MayAnswer}
use Rattle.desk_core.specs.Pen.{IsKept, due_to, after_post, after_read, after_lay}
use Rattle.desk_core.specs.Pen.{after_answer, after_release, after_see, after_take, book_with, limits_in_hand}
use Rattle.desk_core.specs.Desk.{Desk, Has, time, with_control, with_cell, freed, with_pen}
use Rattle.desk_core.specs.declared.model.Standing.TheVariants.{Idle, Waiting}
use Rattle.desk_core.specs.declared.model.Due.{Due}
use Rattle.desk_core.specs.declared.model.PenState.{PenState}

-- a draft whose pen need not be idle
abbrev pub DraftsWhileWaiting : Desk → ℕ → Item → Desk → Type 0
DraftsWhileWaiting d seat x d' =
    (p : PenState) × Has d.views seat p × IsItemOf true x
    × (d' ≡ with_pen (with_cell d p.place x) seat (record p { steps = p.steps + 1 }))

-- a post whose pen need not be idle
abbrev pub PostsWhileWaiting : Desk → ℕ → Request → Desk → Type 0
PostsWhileWaiting d seat request d' =
    (p : PenState) × Has d.views seat p × (p.posts < GREATEST_NUMBER) × IsProperRequestOf true request
    × (d' ≡ with_pen (with_control d p.place (posted (p.posts + 1) request)) seat (after_post p request (time d)))

-- a post whose item need not be drafted
abbrev pub PostsUndrafted : Desk → ℕ → Request → Desk → Type 0
PostsUndrafted d seat request d' =
    (p : PenState) × (draft : Option Item)
    × Has d.views seat p × (p.standing ≡ Idle draft) × (p.posts < GREATEST_NUMBER) × IsProperRequestOf true request
    × (d' ≡ with_pen (with_control d p.place (posted (p.posts + 1) request)) seat (after_post p request (time d)))

-- a post after which the pen still takes the answer of the one before for what stands in its record
abbrev pub PostsKeepingTheOld : Desk → ℕ → Request → Desk → Type 0
PostsKeepingTheOld d seat request d' =
    (p : PenState) × (draft : Option Item)
    × Has d.views seat p × (p.standing ≡ Idle draft) × (p.posts < GREATEST_NUMBER) × IsProperRequestOf true request
    × IsKept (request_item request) draft
    × (d' ≡ with_pen (with_control d p.place (posted (p.posts + 1) request)) seat
    (record (after_post p request (time d)) { own = p.own }))

-- a read of the mail that does not note what stood at the leader's own place
abbrev pub ReadsUnnoted : Desk → ℕ → ℕ → Desk → Type 0
ReadsUnnoted d seat place d' =
    (p : PenState) × Has d.views seat p × (p.leading ≡ true) × (place < d.places)
    × (d' ≡ with_pen d seat (record (after_read p place (d.control place)) { own = p.own }))

-- an item laid where nothing that is due was read
abbrev pub LaysUnread : Desk → ℕ → Item → Desk → Type 0
LaysUnread d seat x d' =
    (p : PenState) × (due : Due)
    × Has d.views seat p × (p.leading ≡ true) × IsItemOf true x
    × (d' ≡ with_pen (with_cell d due.place x) seat (after_lay p due x))

-- an item laid at whatever is due, a push too
abbrev pub LaysAtAPush : Desk → ℕ → Item → Desk → Type 0
LaysAtAPush d seat x d' =
    (p : PenState) × (due : Due)
    × Has d.views seat p × (p.leading ≡ true) × (p.due ≡ Some due) × IsItemOf true x
    × (d' ≡ with_pen (with_cell d due.place x) seat (after_lay p due x))

-- an answer to a push whose item need not be read
abbrev pub AnswersUnread : Desk → ℕ → Answer → Desk → Type 0
AnswersUnread d seat answer d' =
    (p : PenState) × (due : Due) × (request : Request)
    × Has d.views seat p × (p.leading ≡ true) × (p.due ≡ Some due)
    × (kind_of request ≡ due.kind) × IsKept (answer_item answer) due.item × MayAnswer (limits_in_hand p) p.hand request answer
    × (d' ≡ with_pen (with_control d due.place (answered answer)) seat (after_answer p due request answer))

-- an answer whose item need not be laid
abbrev pub AnswersUnlaid : Desk → ℕ → Answer → Desk → Type 0
AnswersUnlaid d seat answer d' =
    (p : PenState) × (due : Due) × (request : Request)
    × Has d.views seat p × (p.leading ≡ true) × (p.due ≡ Some due)
    × (kind_of request ≡ due.kind) × IsKept (request_item request) due.item × MayAnswer (limits_in_hand p) p.hand request answer
    × (d' ≡ with_pen (with_control d due.place (answered answer)) seat (after_answer p due request answer))

-- an answer that the one-thread queue need not give
abbrev pub AnswersAnything : Desk → ℕ → Answer → Desk → Type 0
AnswersAnything d seat answer d' =
    (p : PenState) × (due : Due) × (request : Request)
    × Has d.views seat p × (p.leading ≡ true) × (p.due ≡ Some due)
    × (kind_of request ≡ due.kind) × IsKept (request_item request) due.item × IsKept (answer_item answer) due.item
    × (d' ≡ with_pen (with_control d due.place (answered answer)) seat (after_answer p due request answer))

-- an answer after which the same is due still
abbrev pub AnswersAndOwes : Desk → ℕ → Answer → Desk → Type 0
AnswersAndOwes d seat answer d' =
    (p : PenState) × (due : Due) × (request : Request)
    × Has d.views seat p × (p.leading ≡ true) × (p.due ≡ Some due)
    × (kind_of request ≡ due.kind) × IsKept (request_item request) due.item × IsKept (answer_item answer) due.item
    × MayAnswer (limits_in_hand p) p.hand request answer
    × (d' ≡ with_pen (with_control d due.place (answered answer)) seat
    (record (after_answer p due request answer) { due = Some due }))

-- an answer to a request whose record stands answered
abbrev pub AnswersAgain : Desk → ℕ → Answer → Desk → Type 0
AnswersAgain d seat answer d' =
    (p : PenState) × (q : PenState) × (i : ℕ) × (request : Request)
    × Has d.views seat p × (p.leading ≡ true)
    × Has d.views i q × (q.standing ≡ Waiting request) × (is_answer (d.control q.place) ≡ true)
    × MayAnswer (limits_in_hand p) p.hand request answer
    × (d' ≡ with_pen (with_control d q.place (answered answer)) seat
    (after_answer p (due_to q.place q.posts (kind_of request) (request_item request)) request answer))

-- a release that leaves the Book out
abbrev pub ReleasesWithoutBook : Desk → ℕ → Desk → Type 0
ReleasesWithoutBook d seat d' =
    (p : PenState) × Has d.views seat p × (p.leading ≡ true)
    × (d' ≡ with_pen (record d { held = false }) seat (after_release p))

-- a release that puts an empty Book home
abbrev pub ReleasesAnEmptyBook : Desk → ℕ → Desk → Type 0
ReleasesAnEmptyBook d seat d' =
    (p : PenState) × Has d.views seat p × (p.leading ≡ true)
    × (d' ≡ with_pen (freed d (book_with p [])) seat (after_release p))

-- a word of an item read before its answer was seen
abbrev pub SeesUnseen : Desk → ℕ → Desk → Type 0
SeesUnseen d seat d' =
    (p : PenState) × (request : Request) × (notice : Notice)
    × Has d.views seat p × (p.standing ≡ Waiting request) × (notice_has_item notice ≡ true)
    × (d' ≡ with_pen d seat (after_see p (d.item p.place)))

-- an item taken before its answer was seen
abbrev pub TakesUnseen : Desk → ℕ → Desk → Type 0
TakesUnseen d seat d' =
    (p : PenState) × (request : Request) × (notice : Notice)
    × Has d.views seat p × (p.standing ≡ Waiting request) × (notice_has_item notice ≡ true)
    × (d' ≡ with_pen d seat (after_take p request notice (d.item p.place) (time d)))
