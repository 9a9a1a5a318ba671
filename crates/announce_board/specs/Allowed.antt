-- Each step keeps the rule of the table, and so may be taken: one statement for each kind, of the
-- index and the word of the step. What `roomy` says stands at `Keeps`.
use Rattle.std.specs.Prelude.{◌≡◌, ◌≢◌, ℕ, ◌+◌, ◌<◌, ◌==◌, ◌⊎◌, Bool, true, List, [], ◌∷◌, ◌++◌, length, slice_index, slice_set, Option, Some, None}
use mathlib.Core.Option as home
use mathlib.Core.Option.{some, none}
use lib.ListN.{get_elem?}
use prog.Atomic.{either}
use Rattle.atomic_table.specs.Table.{State, Act, Valid, stepped, carried_after, Allows, Splits, Joins, step}
use Rattle.pq_types.specs.Item.{Item, IsItemOf}
use Rattle.pq_types.specs.Asked.{Request, Operation}
use Rattle.pq_types.specs.Entry.{IsProperOperationOf}
use Rattle.pq_types.specs.Asked.{Answer}
use Rattle.pq_types.specs.declared.answer.Answer.TheVariants.{NoMemory}
use Rattle.pq_types.specs.declared.control.Kind.TheVariants as kind
use Rattle.pq_types.specs.declared.control.Notice.{Notice}
use Rattle.pq_types.specs.declared.control.Control.TheVariants.{Answered}
use Rattle.pq_types.specs.declared.journal.TheConstants.{GREATEST_NUMBER}
use Rattle.pq_types.specs.Queue.{IsProperRequestOf}
use Rattle.pq_types.specs.Control.{kind_of, request_item, answer_item, notice_has_item, posted, answered}
use Rattle.pq_types.specs.History.{MayDo, MayAnswer}
use Rattle.pq_types.specs.Mail.{control_word}
use Rattle.wait_list.specs.Waiters.{Change}
use Rattle.pq_book.specs.Stock.{settled_book}
use Rattle.desk_core.specs.Dealing.{Move, CatchesUp, Happens}
use Rattle.desk_core.specs.Desk.{Desk}
use Rattle.desk_core.specs.Looking.{Looked, sights_of}
use Rattle.desk_core.specs.Steps.{Event, Releases, actor, Step}
use Rattle.desk_core.specs.declared.model.View.{View}
use Rattle.desk_core.specs.Words.{word_number, word_of}
use Rattle.desk_core.specs.Layout.{lock_at, control_at, item_at}
use Rattle.desk_core.specs.Pen.{IsIdle, IsKept, after_archive, after_change, book_in_hand, limits_in_hand}
use Rattle.desk_core.specs.declared.model.Standing.TheVariants.{Idle, Waiting}
use Rattle.desk_core.specs.declared.model.Due.{Due}
use Rattle.desk_core.specs.declared.model.View.TheVariants.{Holder}
use Rattle.announce_board.specs.Rule.{Keeps, Seated, desk_of}
use Rattle.announce_board.specs.declared.terms.Terms.{Terms}
use Rattle.announce_board.specs.Slots.{Slotted, says}
use Rattle.announce_board.specs.Steps.{pen_at, Drafted, PostStored, LockRead, LockTried}
use Rattle.announce_board.specs.Steps.{MailRead, ItemRead, ItemLaid, AnswerStored, Released}
use Rattle.announce_board.specs.Steps.{HasInSlot, KeepsInSlot, BringsHomeBy, Applied, Archived, Changed, HandedOut, ReleasedWith, AnswerLooked, ItemSeen, ItemTaken}

-- how it is said that a step of the seat m is allowed, and tells this: a step on the word at an index, of which it makes f
-- of what the word was
abbrev pub Form : Type 1
Form = Bool → (ℕ → Type 0) → (room : ℕ) (terms : Terms) (places slots id : ℕ) → Seated → ℕ → (ℕ → ℕ) → (ℕ → Seated → Type 0) → Type 0

-- as the table asks
abbrev pub Plainly : Form
Plainly wide roomy room terms places slots id m i f then = Allows (Keeps wide roomy room terms places) slots id m i f then

-- the desk as which a table stands that keeps the rule
abbrev pub desk_in : {wide : Bool} {roomy : ℕ → Type 0} {room : ℕ} {terms : Terms} {places : ℕ} {s : State Slotted View}
    → Keeps wide roomy room terms places s → Desk
desk_in {wide} {roomy} {room} {places} {s} k = desk_of room places k.held k.control k.cells s.homes s.views

-- As the table asks, and this holds of the seat, of what it knows, of the desk as which the table stood, and of the one as which it
-- stands then.
abbrev pub AsTo : (ℕ → Seated → Desk → Desk → Type 0) → Form
AsTo R wide roomy room terms places slots id m i f then =
    (s : State Slotted View) (k : Keeps wide roomy room terms places s) → length s.homes ≡ slots
    → get_elem? s.views id ≡ some m.0 → slice_index s.words i < 18446744073709551616
    → (w : View) × (a : Act Slotted) × Valid s.homes m.1 a
    × (k' : Keeps wide roomy room terms places (stepped s i (f (slice_index s.words i)) id m.1 w a))
    × R id m (desk_in k) (desk_in k')
    × then (slice_index s.words i) (w, carried_after m.1 a)

-- The step is one of the machine, by the pen at this seat; or it changes nothing of the desk.
abbrev pub StepsOrStays : ℕ → Seated → Desk → Desk → Type 0
StepsOrStays id m d d' = ((e : Event) × (actor e ≡ id) × Step d e d') ⊎ (d' ≡ d)

-- The step is a look without a request by the pen at this seat: the machine's release, of which it is seen that the pen of this place
-- finds the journal in its hand.
abbrev pub LooksInHand : ℕ → Seated → Desk → Desk → Type 0
LooksInHand id m d d' =
    (step : Step d (Releases id) d') × (sights_of d (Releases id) d' step ≡ Looked (pen_at m).place (pen_at m).hand ∷ [])

-- The pen at this seat catches up with the journal.
abbrev pub CatchesUpThere : ℕ → Seated → Desk → Desk → Type 0
CatchesUpThere id m d d' = Happens d (CatchesUp id) d'

-- Nothing of the desk changes.
abbrev pub Stays : ℕ → Seated → Desk → Desk → Type 0
Stays id m d d' = d' ≡ d

abbrev pub AsMove : Form
AsMove = AsTo StepsOrStays

abbrev pub AsLook : Form
AsLook = AsTo LooksInHand

abbrev pub AsCatchUp : Form
AsCatchUp = AsTo CatchesUpThere

abbrev pub AsNothing : Form
AsNothing = AsTo Stays

-- how it is said that a seat may be cut in two, by this move of the machine
abbrev pub CutForm : Type 1
CutForm = Move → Bool → (ℕ → Type 0) → (room : ℕ) (terms : Terms) (places id : ℕ) → View → View → View → Type 0

-- as the table asks
abbrev pub CutPlainly : CutForm
CutPlainly x wide roomy room terms places id v left right = Splits (Keeps wide roomy room terms places) id v left right

-- as the table asks, and the move leads from the desk as which the table stood to the one as which it stands then
abbrev pub CutAsMove : CutForm
CutAsMove x wide roomy room terms places id v left right =
    (s : State Slotted View) (k : Keeps wide roomy room terms places s) → get_elem? s.views id ≡ some v
    → (k' : Keeps wide roomy room terms places record { words = s.words; homes = s.homes; views = slice_set s.views id left ++ right ∷ [] })
    × Happens (desk_in k) x (desk_in k')

-- how it is said that a seat may take in what another one has, by this move of the machine
abbrev pub JoinForm : Type 1
JoinForm = Move → Bool → (ℕ → Type 0) → (room : ℕ) (terms : Terms) (places id : ℕ) → View → (other : ℕ) → View → View → View → Type 0

-- as the table asks
abbrev pub JoinPlainly : JoinForm
JoinPlainly x wide roomy room terms places id v other w both spent = Joins (Keeps wide roomy room terms places) id v other w both spent

-- as the table asks, and the move leads from the desk as which the table stood to the one as which it stands then
abbrev pub JoinAsMove : JoinForm
JoinAsMove x wide roomy room terms places id v other w both spent =
    (s : State Slotted View) (k : Keeps wide roomy room terms places s) → get_elem? s.views id ≡ some v → ¬ (other ≡ id)
    → get_elem? (slice_set s.views id both) other ≡ some w
    → (k' : Keeps wide roomy room terms places
    record { words = s.words; homes = s.homes; views = slice_set (slice_set s.views id both) other spent })
    × Happens (desk_in k) x (desk_in k')

-- what follows holds of every desk, and of each seat of it that is a pen's
abbrev pub AtEachPen : (ℕ → Terms → ℕ → ℕ → ℕ → Seated → Type 0) → Type 0
AtEachPen F = (room : ℕ) (terms : Terms) (places slots id : ℕ) (m : Seated) → m.0 ≡ Holder (pen_at m) → F room terms places slots id m

abbrev pub DraftAllowedBy : Form → Bool → (ℕ → Type 0) → Type 0
DraftAllowedBy A wide roomy = AtEachPen (λ room terms places slots id m. (index word j : ℕ) (x : Item)
    → index ≡ item_at (pen_at m).place + j → word ≡ word_of wide j x → j < word_number wide → IsIdle (pen_at m).standing
    → IsItemOf wide x
    → A wide roomy room terms places slots id m index (λ _. word)
    (λ _. Drafted wide (step slots index word 0 none) m word))

abbrev pub PostAllowedBy : Form → Bool → (ℕ → Type 0) → Type 0
PostAllowedBy A wide roomy = AtEachPen (λ room terms places slots id m. (index word : ℕ) (request : Request) (draft : Option Item)
    → index ≡ control_at (pen_at m).place → word ≡ control_word (posted ((pen_at m).posts + 1) request)
    → (pen_at m).standing ≡ Idle draft
    → (pen_at m).posts < GREATEST_NUMBER → IsProperRequestOf true request → IsKept (request_item request) draft
    → A wide roomy room terms places slots id m index (λ _. word) (λ _. PostStored (step slots index word 0 none) m word))

abbrev pub LockReadAllowedBy : Form → Bool → (ℕ → Type 0) → Type 0
LockReadAllowedBy A wide roomy = AtEachPen (λ room terms places slots id m.
    A wide roomy room terms places slots id m lock_at (λ n. n) (LockRead (step slots lock_at 0 0 none) m))

abbrev pub TryAllowedBy : Form → Bool → (ℕ → Type 0) → Type 0
TryAllowedBy A wide roomy = AtEachPen (λ room terms places slots id m. (said : home.Option Slotted) → said ≡ some (says terms)
    → A wide roomy room terms places slots id m lock_at
    (λ n. either (n == 0) 1 n) (LockTried (step slots lock_at 0 1 said) m))

abbrev pub MailReadAllowedBy : Form → Bool → (ℕ → Type 0) → Type 0
MailReadAllowedBy A wide roomy = AtEachPen (λ room terms places slots id m.
    (index place : ℕ) → index ≡ control_at place → place < places → (pen_at m).leading ≡ true
    → A wide roomy room terms places slots id m index (λ n. n) (MailRead (step slots index 0 0 none) m))

abbrev pub ItemReadAllowedBy : Form → Bool → (ℕ → Type 0) → Type 0
ItemReadAllowedBy A wide roomy = AtEachPen (λ room terms places slots id m. (index j : ℕ) (due : Due)
    → index ≡ item_at due.place + j → j < word_number wide → due.place < places → (pen_at m).due ≡ Some due
    → due.kind ≡ kind.Push
    → A wide roomy room terms places slots id m index (λ n. n) (ItemRead wide (step slots index 0 0 none) m))

abbrev pub ItemLaidAllowedBy : Form → Bool → (ℕ → Type 0) → Type 0
ItemLaidAllowedBy A wide roomy = AtEachPen (λ room terms places slots id m. (index word j : ℕ) (due : Due) (x : Item)
    → index ≡ item_at due.place + j → word ≡ word_of wide j x → j < word_number wide → due.place < places
    → (pen_at m).due ≡ Some due → due.kind ≢ kind.Push
    → IsItemOf wide x
    → A wide roomy room terms places slots id m index (λ _. word)
    (λ _. ItemLaid wide (step slots index word 0 none) m word))

abbrev pub AnswerAllowedBy : Form → Bool → (ℕ → Type 0) → Type 0
AnswerAllowedBy A wide roomy = AtEachPen (λ room terms places slots id m.
    (index word : ℕ) (due : Due) (request : Request) (answer : Answer)
    → index ≡ control_at due.place → word ≡ control_word (answered answer) → due.place < places → (pen_at m).due ≡ Some due
    → kind_of request ≡ due.kind → IsKept (request_item request) due.item → IsKept (answer_item answer) due.item
    → MayAnswer (limits_in_hand (pen_at m)) (pen_at m).hand request answer → (roomy (pen_at m).room → answer ≢ NoMemory)
    → A wide roomy room terms places slots id m index (λ _. word)
    (λ _. AnswerStored (step slots index word 0 none) m word))

-- the slot that is held has the Book with the line of the request of its own, if it is entered
abbrev pub ApplyAllowedBy : Form → Bool → (ℕ → Type 0) → Type 0
ApplyAllowedBy A wide roomy = AtEachPen (λ room terms places slots id m.
    (others : List (ℕ × Slotted)) (request : Request) (answer : Answer)
    → KeepsInSlot m request answer others → (pen_at m).leading ≡ true → IsIdle (pen_at m).standing
    → (pen_at m).posts < GREATEST_NUMBER
    → IsProperRequestOf true request → MayAnswer (limits_in_hand (pen_at m)) (pen_at m).hand request answer
    → A wide roomy room terms places slots id m lock_at (λ n. n) (Applied (step slots lock_at 0 0 none) m))

-- the slot that is held has the Book in the pen's hand, which allows as many lines as it may once so many are archived
abbrev pub ArchiveAllowedBy : Form → Bool → (ℕ → Type 0) → Type 0
ArchiveAllowedBy A wide roomy = AtEachPen (λ room terms places slots id m. (others : List (ℕ × Slotted)) (lines : ℕ)
    → HasInSlot m (book_in_hand (after_archive (pen_at m) lines)) others → (pen_at m).leading ≡ true
    → A wide roomy room terms places slots id m lock_at (λ n. n) (Archived (step slots lock_at 0 0 none) m))

-- the slot that is held has the Book in the pen's hand, at which other waiters are then
abbrev pub ChangeAllowedBy : Form → Bool → (ℕ → Type 0) → Type 0
ChangeAllowedBy A wide roomy = AtEachPen (λ room terms places slots id m. (others : List (ℕ × Slotted)) (change : Change)
    → HasInSlot m (book_in_hand (after_change (pen_at m) change)) others → (pen_at m).leading ≡ true
    → A wide roomy room terms places slots id m lock_at (λ n. n) (Changed (step slots lock_at 0 0 none) m))

abbrev pub HandOutAllowedBy : Form → Bool → (ℕ → Type 0) → Type 0
HandOutAllowedBy A wide roomy = AtEachPen (λ room terms places slots id m.
    A wide roomy room terms places slots id m lock_at (λ n. n) (HandedOut (step slots lock_at 0 0 none) m))

-- the slot that is given back has the Book in the pen's hand, once that has woken whom it is to wake
abbrev pub ReleaseAllowedBy : Form → Bool → (ℕ → Type 0) → Type 0
ReleaseAllowedBy A wide roomy = AtEachPen (λ room terms places slots id m. (others : List (ℕ × Slotted))
    → HasInSlot m (settled_book (book_in_hand (pen_at m))) others → (pen_at m).leading ≡ true
    → A wide roomy room terms places slots id m lock_at (λ _. 0) (λ _. Released (step slots lock_at 0 0 none) m 0))

-- the slot that is given back has the Book with the line of the operation of its own, if it is entered, once it has woken whom it is
-- to wake
abbrev pub ReleaseWithAllowedBy : Form → Bool → (ℕ → Type 0) → Type 0
ReleaseWithAllowedBy A wide roomy = AtEachPen (λ room terms places slots id m.
    (others : List (ℕ × Slotted)) (operation : Operation) (answer : Answer) → BringsHomeBy m operation answer others
    → (pen_at m).leading ≡ true → (pen_at m).due ≡ None → IsIdle (pen_at m).standing
    → (pen_at m).posts < GREATEST_NUMBER
    → IsProperOperationOf true operation → MayDo (limits_in_hand (pen_at m)) (pen_at m).hand operation answer
    → A wide roomy room terms places slots id m lock_at (λ _. 0) (λ _. ReleasedWith (step slots lock_at 0 0 none) m 0))

abbrev pub LookAllowedBy : Form → Bool → (ℕ → Type 0) → Type 0
LookAllowedBy A wide roomy = AtEachPen (λ room terms places slots id m.
    (index : ℕ) (request : Request) → index ≡ control_at (pen_at m).place → (pen_at m).standing ≡ Waiting request
    → A wide roomy room terms places slots id m index (λ n. n) (AnswerLooked roomy (step slots index 0 0 none) m))

abbrev pub TakeAllowedBy : Form → Bool → (ℕ → Type 0) → Type 0
TakeAllowedBy A wide roomy = AtEachPen (λ room terms places slots id m. (index j : ℕ) (request : Request) (notice : Notice)
    → index ≡ item_at (pen_at m).place + j → j < word_number wide → (pen_at m).standing ≡ Waiting request
    → (pen_at m).own ≡ Answered notice → notice_has_item notice ≡ true
    → A wide roomy room terms places slots id m index (λ n. n) (ItemTaken wide (step slots index 0 0 none) m))

-- a word of the item of an answer is read, of which there is more to read
abbrev pub SeeAllowedBy : Form → Bool → (ℕ → Type 0) → Type 0
SeeAllowedBy A wide roomy = AtEachPen (λ room terms places slots id m. (index j : ℕ) (request : Request) (notice : Notice)
    → index ≡ item_at (pen_at m).place + j → j < word_number wide → (pen_at m).standing ≡ Waiting request
    → (pen_at m).own ≡ Answered notice → notice_has_item notice ≡ true
    → A wide roomy room terms places slots id m index (λ n. n) (ItemSeen wide (step slots index 0 0 none) m))

-- each of them, as the table asks
abbrev pub DraftAllowed : Bool → (ℕ → Type 0) → Type 0
DraftAllowed = DraftAllowedBy Plainly

abbrev pub PostAllowed : Bool → (ℕ → Type 0) → Type 0
PostAllowed = PostAllowedBy Plainly

abbrev pub LockReadAllowed : Bool → (ℕ → Type 0) → Type 0
LockReadAllowed = LockReadAllowedBy Plainly

abbrev pub TryAllowed : Bool → (ℕ → Type 0) → Type 0
TryAllowed = TryAllowedBy Plainly

abbrev pub MailReadAllowed : Bool → (ℕ → Type 0) → Type 0
MailReadAllowed = MailReadAllowedBy Plainly

abbrev pub ItemReadAllowed : Bool → (ℕ → Type 0) → Type 0
ItemReadAllowed = ItemReadAllowedBy Plainly

abbrev pub ItemLaidAllowed : Bool → (ℕ → Type 0) → Type 0
ItemLaidAllowed = ItemLaidAllowedBy Plainly

abbrev pub AnswerAllowed : Bool → (ℕ → Type 0) → Type 0
AnswerAllowed = AnswerAllowedBy Plainly

abbrev pub ApplyAllowed : Bool → (ℕ → Type 0) → Type 0
ApplyAllowed = ApplyAllowedBy Plainly

abbrev pub ArchiveAllowed : Bool → (ℕ → Type 0) → Type 0
ArchiveAllowed = ArchiveAllowedBy Plainly

abbrev pub ChangeAllowed : Bool → (ℕ → Type 0) → Type 0
ChangeAllowed = ChangeAllowedBy Plainly

abbrev pub HandOutAllowed : Bool → (ℕ → Type 0) → Type 0
HandOutAllowed = HandOutAllowedBy Plainly

abbrev pub ReleaseAllowed : Bool → (ℕ → Type 0) → Type 0
ReleaseAllowed = ReleaseAllowedBy Plainly

abbrev pub ReleaseWithAllowed : Bool → (ℕ → Type 0) → Type 0
ReleaseWithAllowed = ReleaseWithAllowedBy Plainly

abbrev pub LookAllowed : Bool → (ℕ → Type 0) → Type 0
LookAllowed = LookAllowedBy Plainly

abbrev pub TakeAllowed : Bool → (ℕ → Type 0) → Type 0
TakeAllowed = TakeAllowedBy Plainly

abbrev pub SeeAllowed : Bool → (ℕ → Type 0) → Type 0
SeeAllowed = SeeAllowedBy Plainly
