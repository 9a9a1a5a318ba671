-- What each atomic step makes of its pen, and what it tells.
use Rattle.std.specs.Prelude.{◌≡◌, ◌≢◌, ℕ, ◌+◌, Bool, false, List, ◌∷◌, Option, Some}
use mathlib.Core.Option.{some}
use Rattle.atomic_table.specs.Table.{Step, rest}
use Rattle.pq_types.specs.Item.{Item, IsItemOf}
use Rattle.pq_types.specs.Asked.{Request, Operation}
use Rattle.pq_types.specs.Operation.{Asked}
use Rattle.pq_types.specs.Asked.{Answer}
use Rattle.pq_types.specs.declared.answer.Answer.TheVariants.{NoMemory}
use Rattle.pq_types.specs.declared.control.Notice.{Notice}
use Rattle.pq_types.specs.declared.control.Control.TheVariants.{Answered}
use Rattle.pq_types.specs.Control.{kind_of, request_item, answer_item, posted, answered}
use Rattle.pq_types.specs.History.{journal_by, Limits, MayDo, MayAnswer}
use Rattle.pq_types.specs.Mail.{IsProperControl, control_word}
use Rattle.wait_list.specs.Waiters.{Change}
use Rattle.pq_book.specs.Book.{Volume}
use Rattle.pq_book.specs.Stock.{settled_book, IsSettledBook}
use Rattle.desk_core.specs.Pen.{IsKept, after_draft, after_post, after_lead, after_miss, after_read}
use Rattle.desk_core.specs.Pen.{after_read_item, after_lay, after_answer, after_release}
use Rattle.desk_core.specs.Pen.{after_apply, after_archive, after_change, after_hand_out, after_release_by, after_look, after_see, after_take}
use Rattle.desk_core.specs.Pen.{book_with, book_in_hand, limits_in_hand}
use Rattle.desk_core.specs.Dealing.{IsReached}
use Rattle.desk_core.specs.Desk.{Desk, Has}
use Rattle.desk_core.specs.Knows.{Knows, NoneAbove}
use Rattle.desk_core.specs.Layout.{control_at, item_at}
use Rattle.desk_core.specs.Words.{word_of, mixed}
use Rattle.desk_core.specs.Rule.{MeetsRule}
use Rattle.desk_core.specs.declared.model.Standing.TheVariants.{Idle, Waiting}
use Rattle.desk_core.specs.declared.model.Due.{Due}
use Rattle.desk_core.specs.declared.model.PenState.{PenState}
use Rattle.desk_core.specs.declared.model.View.TheVariants.{Holder}
use Rattle.announce_board.specs.Rule.{Seated, pen_of}
use Rattle.announce_board.specs.declared.terms.Terms.{Terms}
use Rattle.announce_board.specs.Slots.{MeetsTerms, Slotted, with_book, says}

-- the pen has a seat at a desk that is at the end of some run of the machine, and meets the rule
pub record StandsAt (d : Desk) (p : PenState) : Type 0 where
  pub first : Limits
  pub room : first.room ≡ d.room
  pub reached : IsReached d.places first d
  pub meets : MeetsRule d
  pub seat : ℕ
  pub has : Has d.views seat p

-- the pen of a seat
abbrev pub pen_at : Seated → PenState
pen_at m = pen_of m.0

-- the seat is now that of this pen, and holds what it held
abbrev pub Becomes : Seated → PenState → Seated → Type 0
Becomes before p after = ◌≡◌ {A = Seated} after (Holder p, before.1)

-- word j of this item was stored in the cell of the pen's own place, beside the other word, if there is one, that stood there
pub record WordDrafted (wide : Bool) (j : ℕ) (x : Item) (before after : Seated) : Type 0 where
  pub desk : Desk
  pub stands : StandsAt desk (pen_at before)
  pub range : IsItemOf wide (desk.item (pen_at before).place)
  pub next : Becomes before (after_draft (pen_at before) (mixed wide j x (desk.item (pen_at before).place))) after

abbrev pub Drafted : Bool → Step Slotted → Seated → ℕ → Seated → Type 0
Drafted wide st before word after =
    (j : ℕ) (x : Item) → IsItemOf wide x → st.word ≡ item_at (pen_at before).place + j → st.first ≡ word_of wide j x
    → WordDrafted wide j x before after

-- The control of a post under the next serial was stored at the pen's own place, as the act at some position of the history:
-- it is that of the request whose item, if it has one, was drafted. What the pen knew of the journal has no line of its place
-- above its last serial.
abbrev pub PostStored : Step Slotted → Seated → ℕ → Seated → Type 0
PostStored st before word after =
    (request : Request) (draft : Option Item) → (pen_at before).standing ≡ Idle draft → IsKept (request_item request) draft
    → IsProperControl (posted ((pen_at before).posts + 1) request)
    → st.first ≡ control_word (posted ((pen_at before).posts + 1) request)
    → ((now : ℕ) × Becomes before (after_post (pen_at before) request now) after)
    × NoneAbove (pen_at before).place (pen_at before).posts (pen_at before).known

-- the lock word was loaded: where it was 1 that is a try that found the lock held, else nothing has
-- changed
abbrev pub LockRead : Step Slotted → Seated → ℕ → Seated → Type 0
LockRead st before word after =
    (word ≡ 0 → after ≡ before) × (word ≢ 0 → (word ≡ 1) × Becomes before (after_miss (pen_at before)) after)

-- The lock was tried. Where its word was 0 the pen, which did not lead, has the slot with the Book,
-- and knows of its journal what a pen knows of the one at home; and the Book meets the terms that the step
-- names, and had woken whom it was to wake. Else its word was 1.
pub record LockWon (terms : Terms) (before after : Seated) : Type 0 where
  pub book : Volume
  pub room : book.room ≡ (pen_at before).room
  pub bounded : MeetsTerms terms book
  pub settled : IsSettledBook book
  pub knows : Knows (pen_at before).room (pen_at before) book.journal
  pub led_not : (pen_at before).leading ≡ false
  pub next : ◌≡◌ {A = Seated} after (Holder (after_lead (pen_at before) book), (0, with_book book) ∷ before.1)

abbrev pub LockTried : Step Slotted → Seated → ℕ → Seated → Type 0
LockTried st before word after =
    (word ≡ 0 → (terms : Terms) → st.said ≡ some (says terms) → LockWon terms before after) × (word ≢ 0 → (word ≡ 1) × Becomes before (after_miss (pen_at before)) after)

-- the leader read this control of a desk
pub record ControlRead (place : ℕ) (before : Seated) (word : ℕ) (after : Seated) : Type 0 where
  pub desk : Desk
  pub stands : StandsAt desk (pen_at before)
  pub proper : IsProperControl (desk.control place)
  pub word_is : word ≡ control_word (desk.control place)
  pub next : Becomes before (after_read (pen_at before) place (desk.control place)) after

abbrev pub MailRead : Step Slotted → Seated → ℕ → Seated → Type 0
MailRead st before word after = (place : ℕ) → st.word ≡ control_at place → ControlRead place before word after

-- the leader read word j of the item of what is due
pub record CellRead (wide : Bool) (j : ℕ) (due : Due) (before : Seated) (word : ℕ) (after : Seated) : Type 0 where
  pub desk : Desk
  pub stands : StandsAt desk (pen_at before)
  pub range : IsItemOf wide (desk.item due.place)
  pub word_is : word ≡ word_of wide j (desk.item due.place)
  pub next : Becomes before (after_read_item (pen_at before) due (desk.item due.place)) after

abbrev pub ItemRead : Bool → Step Slotted → Seated → ℕ → Seated → Type 0
ItemRead wide st before word after = (j : ℕ) (due : Due) → (pen_at before).due ≡ Some due → st.word ≡ item_at due.place + j
    → CellRead wide j due before word after

-- the leader laid word j of this item at what is due, beside the other word, if there is one, that stood there
pub record WordLaid (wide : Bool) (j : ℕ) (due : Due) (x : Item) (before after : Seated) : Type 0 where
  pub desk : Desk
  pub stands : StandsAt desk (pen_at before)
  pub range : IsItemOf wide (desk.item due.place)
  pub next : Becomes before (after_lay (pen_at before) due (mixed wide j x (desk.item due.place))) after

abbrev pub ItemLaid : Bool → Step Slotted → Seated → ℕ → Seated → Type 0
ItemLaid wide st before word after =
    (j : ℕ) (due : Due) (x : Item) → (pen_at before).due ≡ Some due → IsItemOf wide x → st.word ≡ item_at due.place + j
    → st.first ≡ word_of wide j x
    → WordLaid wide j due x before after

-- the leader stored the control of an answer to what is due: the request is that of the kind that
-- is due, with the item that was read; and an item of the answer is the one that was laid
abbrev pub AnswerStored : Step Slotted → Seated → ℕ → Seated → Type 0
AnswerStored st before word after =
    (due : Due) (request : Request) (answer : Answer) → (pen_at before).due ≡ Some due
    → kind_of request ≡ due.kind → IsKept (request_item request) due.item → IsKept (answer_item answer) due.item
    → IsProperControl (answered answer) → st.first ≡ control_word (answered answer)
    → Becomes before (after_answer (pen_at before) due request answer) after

-- the leader gave the slot back and freed the lock
abbrev pub Released : Step Slotted → Seated → ℕ → Seated → Type 0
Released st before word after = ◌≡◌ {A = Seated} after (Holder (after_release (pen_at before)), rest before.1)

-- the slot that the pen holds, or gives back, has this Book
abbrev pub HasInSlot : Seated → Volume → List (ℕ × Slotted) → Type 0
HasInSlot m book others = ◌≡◌ {A = List (ℕ × Slotted)} m.1 ((0, with_book book) ∷ others)

-- the Book that was in its hand, with the line of its own operation, under its next serial, if this answer entered it
abbrev pub book_by : PenState → Operation → Answer → Volume
book_by p operation answer = book_with p (journal_by p.hand p.place (p.posts + 1) operation answer)

-- the slot that the pen gives back has that Book, once it has woken whom it is to wake
abbrev pub BringsHomeBy : Seated → Operation → Answer → List (ℕ × Slotted) → Type 0
BringsHomeBy m operation answer others = HasInSlot m (settled_book (book_by (pen_at m) operation answer)) others

-- the slot that it keeps has that Book, with the line of its own request
abbrev pub KeepsInSlot : Seated → Request → Answer → List (ℕ × Slotted) → Type 0
KeepsInSlot m request answer others = HasInSlot m (book_by (pen_at m) (Asked request) answer) others

-- The leader applied a request of its own that was so answered, and loaded the lock: what stands in the
-- slot, which it keeps, tells which line, if any, is the last. It knew the journal in its hand.
abbrev pub Applied : Step Slotted → Seated → ℕ → Seated → Type 0
Applied st before word after =
    (request : Request) (answer : Answer) → MayAnswer (limits_in_hand (pen_at before)) (pen_at before).hand request answer
    → KeepsInSlot before request answer (rest before.1)
    → ((now : ℕ) × Becomes before (after_apply (pen_at before) request answer now) after)
    × Knows (pen_at before).room (pen_at before) (pen_at before).hand

-- The leader heard that lines of its journal are archived, and loaded the lock: what stands in the slot, which it keeps, tells
-- how many lines are allowed then.
abbrev pub Archived : Step Slotted → Seated → ℕ → Seated → Type 0
Archived st before word after =
    (lines : ℕ) → HasInSlot before (book_in_hand (after_archive (pen_at before) lines)) (rest before.1)
    → Becomes before (after_archive (pen_at before) lines) after

-- The leader changed who waits at its Book, and loaded the lock: what stands in the slot, which it keeps, tells who waits then.
abbrev pub Changed : Step Slotted → Seated → ℕ → Seated → Type 0
Changed st before word after =
    (change : Change) → HasInSlot before (book_in_hand (after_change (pen_at before) change)) (rest before.1)
    → Becomes before (after_change (pen_at before) change) after

-- the pen handed out the numbers of those whom it has woken, and loaded the lock
abbrev pub HandedOut : Step Slotted → Seated → ℕ → Seated → Type 0
HandedOut st before word after = Becomes before (after_hand_out (pen_at before)) after

-- The leader gave the slot back and freed the lock, with an operation of its own that was so answered:
-- what stood in the slot tells which line, if any, is the last. The leader knew the journal in its hand.
abbrev pub ReleasedWith : Step Slotted → Seated → ℕ → Seated → Type 0
ReleasedWith st before word after =
    (operation : Operation) (answer : Answer) → MayDo (limits_in_hand (pen_at before)) (pen_at before).hand operation answer
    → BringsHomeBy before operation answer (rest before.1)
    → ((now : ℕ) × ◌≡◌ {A = Seated} after (Holder (after_release_by (pen_at before) operation answer now), rest before.1))
    × Knows (pen_at before).room (pen_at before) (pen_at before).hand

-- the pen looked at the control of its own place
pub record Looked (request : Request) (before : Seated) (word : ℕ) (after : Seated) : Type 0 where
  pub desk : Desk
  pub stands : StandsAt desk (pen_at before)
  pub proper : IsProperControl (desk.control (pen_at before).place)
  pub word_is : word ≡ control_word (desk.control (pen_at before).place)
  pub now : ℕ
  pub next : Becomes before (after_look (pen_at before) request (desk.control (pen_at before).place) now) after

-- the same; and where every store is roomy enough for the journal, that was not the answer NoMemory
abbrev pub AnswerLooked : (ℕ → Type 0) → Step Slotted → Seated → ℕ → Seated → Type 0
AnswerLooked roomy st before word after =
    (request : Request) → (pen_at before).standing ≡ Waiting request
    → Looked request before word after × (roomy (pen_at before).room → word ≢ control_word (answered NoMemory))

-- the pen read word j of the item of the answer that it has seen at its own place, and goes on waiting
pub record WordSeen (wide : Bool) (j : ℕ) (before : Seated) (word : ℕ) (after : Seated) : Type 0 where
  pub desk : Desk
  pub stands : StandsAt desk (pen_at before)
  pub range : IsItemOf wide (desk.item (pen_at before).place)
  pub word_is : word ≡ word_of wide j (desk.item (pen_at before).place)
  pub next : Becomes before (after_see (pen_at before) (desk.item (pen_at before).place)) after

abbrev pub ItemSeen : Bool → Step Slotted → Seated → ℕ → Seated → Type 0
ItemSeen wide st before word after = (j : ℕ) → st.word ≡ item_at (pen_at before).place + j → WordSeen wide j before word after

-- the pen took the item of the answer that it has seen at its own place, of which it read word j
pub record Taken (wide : Bool) (j : ℕ) (request : Request) (notice : Notice) (before : Seated) (word : ℕ)
    (after : Seated) : Type 0 where
  pub desk : Desk
  pub stands : StandsAt desk (pen_at before)
  pub range : IsItemOf wide (desk.item (pen_at before).place)
  pub word_is : word ≡ word_of wide j (desk.item (pen_at before).place)
  pub now : ℕ
  pub next : Becomes before (after_take (pen_at before) request notice (desk.item (pen_at before).place) now) after

abbrev pub ItemTaken : Bool → Step Slotted → Seated → ℕ → Seated → Type 0
ItemTaken wide st before word after =
    (j : ℕ) (request : Request) (notice : Notice) → (pen_at before).standing ≡ Waiting request
    → (pen_at before).own ≡ Answered notice
    → st.word ≡ item_at (pen_at before).place + j → Taken wide j request notice before word after
