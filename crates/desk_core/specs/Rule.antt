-- The rule of the desk: what holds of it between any two steps. It is an invariant: each step leads
-- from any desk that meets it to one that meets it.
use Rattle.std.specs.Prelude.{◌≡◌, ◌≢◌, ℕ, ◌+◌, ◌-◌, ◌<◌, ◌≤◌, ◌⊎◌, true, false, List, []}
use Rattle.std.specs.Prelude.{◌∷◌, ◌++◌, length, slice_get, slice_set, Option, Some, None}
use Rattle.std.specs.List.{AllByRecursion}
use mathlib.Core.Option.{some}
use lib.ListN.{get_elem?}
use Rattle.pq_types.specs.Item.{Item}
use Rattle.pq_types.specs.Asked.{Request}
use Rattle.pq_types.specs.Asked.{Reply}
use Rattle.pq_types.specs.declared.answer.Answer.TheVariants.{Entered, BookFull, NoMemory, Refused}
use Rattle.pq_types.specs.declared.answer.Refusal.{Refusal}
use Rattle.desk_core.specs.Answering.{Bars, IsBarred}
use Rattle.pq_types.specs.declared.control.Outcome.{Outcome}
use Rattle.pq_types.specs.declared.control.Notice.TheVariants as notice
use Rattle.pq_types.specs.declared.control.Control.{Control}
use Rattle.pq_types.specs.declared.control.Control.TheVariants.{Nothing, Posted, Answered}
use Rattle.pq_types.specs.Asked.{Line}
use Rattle.pq_types.specs.declared.journal.TheConstants.{GREATEST_NUMBER}
use Rattle.pq_types.specs.Queue.{IsProperRequestOf, AreItemsOf, IsPush}
use Rattle.pq_types.specs.Control.{request_item, reply_item, Carries, posted, answered, is_answer}
use Rattle.pq_types.specs.History.{line, left, IsLegal, SerialsRise, HeedsShut, Limits}
use Rattle.pq_types.specs.Mail.{IsProperAnswerOf}
use Rattle.desk_core.specs.Calls.{call, calls_of}
use Rattle.desk_core.specs.Pen.{new_pen}
use Rattle.desk_core.specs.Desk.{Desk, Has, AtHome, opening, dealer_opening}
use Rattle.desk_core.specs.Steps.{Event, Step, Run}
use Rattle.desk_core.specs.declared.model.Call.{Call}
use Rattle.desk_core.specs.declared.model.Standing.{Standing}
use Rattle.desk_core.specs.declared.model.Standing.TheVariants.{Idle, Waiting}
use Rattle.desk_core.specs.declared.model.Due.{Due}
use Rattle.desk_core.specs.declared.model.PenState.{PenState}
use Rattle.desk_core.specs.declared.model.View.{View}
use Rattle.desk_core.specs.declared.model.View.TheVariants.{Dealer, Holder, Note}

-- What stands in a pen's record, and which lines of its place the journal has: those that it has
-- read whole, and at most one more, whose answer stands there.
pub data Stands (room : ℕ) (journal : List Line) (control : Control) (cell : Item) (place posts : ℕ) (standing : Standing)
    (mine : List Call) : Type 0 where
  -- its record was never posted in: nothing, and the item of its draft, if it has one
  fresh :
      (draft : Option Item) → standing ≡ Idle draft → Carries draft cell → control ≡ Nothing → calls_of place journal ≡ mine
      → Stands room journal control cell place posts standing mine
  -- it is idle again: an answer, and the item of its draft
  idle :
      (draft : Option Item) → standing ≡ Idle draft → Carries draft cell → 0 < posts → is_answer control ≡ true
      → calls_of place journal ≡ mine
      → Stands room journal control cell place posts standing mine
  -- it waits: its request, with its item
  unanswered :
      (q : Request) → standing ≡ Waiting q → IsProperRequestOf true q → 0 < posts → control ≡ posted posts q
      → Carries (request_item q) cell
      → calls_of place journal ≡ mine
      → Stands room journal control cell place posts standing mine
  -- it waits: the entered answer with its item, whose line the journal has
  entered :
      (q : Request) (l : ℕ) (r : Reply) → standing ≡ Waiting q → 0 < posts → IsProperAnswerOf true (Entered l r)
      → control ≡ answered (Entered l r) → Carries (reply_item r) cell
      → calls_of place journal ≡ mine ++ call l posts q r ∷ [] → slice_get journal (l - 1) ≡ Some (line place posts q r)
      → Stands room journal control cell place posts standing mine
  -- it waits: refused, since the journal is full
  full :
      (q : Request) → standing ≡ Waiting q → 0 < posts → control ≡ answered BookFull → length journal ≡ room
      → calls_of place journal ≡ mine
      → Stands room journal control cell place posts standing mine
  -- it waits: refused by the queue's rules
  barred :
      (q : Request) (why : Refusal) → standing ≡ Waiting q → 0 < posts → IsBarred q why × Bars journal why
      → control ≡ answered (Refused why) → calls_of place journal ≡ mine
      → Stands room journal control cell place posts standing mine
  -- it waits: a push refused for want of memory
  refused :
      (q : Request) → standing ≡ Waiting q → 0 < posts → IsPush q → control ≡ answered NoMemory → calls_of place journal ≡ mine
      → Stands room journal control cell place posts standing mine

-- what all serials of the calls that a pen has read are below: its posts while it waits, else the
-- next one
abbrev pub above_mine : ℕ → Standing → ℕ
above_mine posts (Idle draft) = posts + 1
above_mine posts (Waiting q) = posts

-- the first list begins with the second
abbrev pub StartsWith : List Line → List Line → Type 0
StartsWith lines first = (rest : List Line) × (lines ≡ first ++ rest)

-- a pen that knows this item of the answer in its record waits and has seen the answer, and the item
-- stands there
abbrev pub IsSeen : Item → PenState → Item → Type 0
IsSeen cell p x = ((request : Request) × (p.standing ≡ Waiting request)) × (is_answer p.own ≡ true) × (cell ≡ x)

-- What is true of one pen, its record and the journal: it knows the journal's room; its posts have
-- serials; the record and the lines of its place; the serials that it has read; the journal that it
-- knows is a beginning of this one; an answer that it last saw or stored at its own place
-- still stands there, and so does the item that it has seen beside it; and nothing stands there only
-- where it has stored and seen nothing there. Where it was told that the journal is full, it is, and no entered answer comes to
-- what it has posted since.
pub record PenRule (room : ℕ) (journal : List Line) (control : Control) (cell : Item) (p : PenState) : Type 0 where
  pub told : p.room ≡ room
  pub counted : p.posts ≤ GREATEST_NUMBER
  pub stands : Stands room journal control cell p.place p.posts p.standing p.mine
  pub looked : AllByRecursion (λ c. c.serial < above_mine p.posts p.standing) p.mine
  pub known : StartsWith journal p.known
  pub own : is_answer p.own ≡ true → control ≡ p.own
  pub blank : control ≡ Nothing → p.own ≡ Nothing
  pub filled : p.told_full ≡ true → length journal ≡ room
  pub barred :
      p.told_full ≡ true → (q : Request) (number : ℕ) (outcome : Outcome) → p.standing ≡ Waiting q
      → control ≢ Answered (notice.Entered number outcome)
  pub seen : (x : Item) → p.seen ≡ Some x → IsSeen cell p x

-- what is due is due to a leader, and still stands posted at its place, with the item that the
-- leader knows of it
abbrev pub IsDue : Desk → PenState → Type 0
IsDue d p = (due : Due) → p.due ≡ Some due
    → (p.leading ≡ true) × (d.control due.place ≡ Posted due.serial due.kind) × Carries due.item (d.item due.place)

-- a pen that leads is the chief: the lock is held, and the journal is in its hand
abbrev pub IsLed : Desk → List Line → ℕ → ℕ → PenState → Type 0
IsLed d journal chief seat p = p.leading ≡ true → (seat ≡ chief) × (d.held ≡ true) × (p.hand ≡ journal)

-- the lock is free and the Book at home with its room and this journal, or the lock is held, the
-- Book is out and the chief leads
abbrev pub Lock : Desk → List Line → ℕ → Type 0
Lock d journal chief =
    ((d.held ≡ false) × AtHome d.home d.room journal)
    ⊎ ((d.held ≡ true) × (d.home ≡ None) × ((p : PenState) × Has d.views chief p × (p.leading ≡ true)))

-- each pen has a place of its own, and a control that is not Nothing has a pen
pub record Places (d : Desk) : Type 0 where
  pub inside : (i : ℕ) (p : PenState) → Has d.views i p → p.place < d.places
  pub apart : (i j : ℕ) (p q : PenState) → Has d.views i p → Has d.views j q → p.place ≡ q.place → i ≡ j
  pub owned : (place : ℕ) → d.control place ≢ Nothing → (i : ℕ) × (p : PenState) × Has d.views i p × (p.place ≡ place)

-- the first seat alone may deal pens: those of the places from `next` on are still to come, and the
-- journal has no line there
pub record IsDealer (views : List View) (journal : List Line) (seat next : ℕ) : Type 0 where
  pub first : seat ≡ 0
  pub pens : (j : ℕ) (p : PenState) → Has views j p → p.place < next
  pub lines : (place : ℕ) → next ≤ place → calls_of place journal ≡ []

-- the journal by itself: a legal history in which the serials of each place rise, and no push stands behind a shut line,
-- with room for its lines, and with items in the range
pub record Lawful (room : ℕ) (journal : List Line) : Type 0 where
  pub legal : IsLegal journal
  pub rise : SerialsRise journal
  pub heeds : HeedsShut journal
  pub within : length journal ≤ room
  pub items : AreItemsOf true (left journal)

-- The rule, where this is the journal now and this seat the leader's, if one leads. The journal that a note tells is a
-- beginning of it.
pub record RuleAt (d : Desk) (journal : List Line) (chief : ℕ) : Type 0 where
  pub room_in_range : d.room ≤ GREATEST_NUMBER
  pub lock : Lock d journal chief
  pub led : (i : ℕ) (p : PenState) → Has d.views i p → IsLed d journal chief i p
  pub due : (i : ℕ) (p : PenState) → Has d.views i p → IsDue d p
  pub seated : Places d
  pub dealers : (i next known_room : ℕ) → get_elem? d.views i ≡ some (Dealer next known_room)
      → (known_room ≡ d.room) × IsDealer d.views journal i next
  pub lawful : Lawful d.room journal
  pub pens : (i : ℕ) (p : PenState) → Has d.views i p → PenRule d.room journal (d.control p.place) (d.item p.place) p
  pub notes : (i : ℕ) (told : List Line) → get_elem? d.views i ≡ some (Note told) → StartsWith journal told

-- The rule of the desk. The journal now is the home Book's while the lock is free, else the one in
-- the leader's hand.
abbrev pub MeetsRule : Desk → Type 0
MeetsRule d = (journal : List Line) × (chief : ℕ) × RuleAt d journal chief

-- both openings meet the rule
pub record OpeningsMeetRule : Type 0 where
  pub pens : (places : ℕ) (limits : Limits) → limits.room ≤ GREATEST_NUMBER → MeetsRule (opening places limits)
  pub dealer : (places : ℕ) (limits : Limits) → limits.room ≤ GREATEST_NUMBER → MeetsRule (dealer_opening places limits)

-- each step keeps it
abbrev pub EveryStepKeepsRule : Type 0
EveryStepKeepsRule = (d d' : Desk) (e : Event) → MeetsRule d → Step d e d' → MeetsRule d'

-- so does a dealer that gives out the pen of its next place, at a new seat
abbrev pub DealingKeepsRule : Type 0
DealingKeepsRule =
    (d : Desk) (seat next known_room : ℕ) → MeetsRule d → get_elem? d.views seat ≡ some (Dealer next known_room) → next < d.places
    → MeetsRule
    (record d { views = slice_set d.views seat (Dealer (next + 1) known_room) ++ Holder (new_pen known_room next) ∷ [] })

-- and so it holds after every run from the opening
abbrev pub EveryRunMeetsRule : Type 0
EveryRunMeetsRule = (places : ℕ) (limits : Limits) (events : List Event) (d : Desk) → limits.room ≤ GREATEST_NUMBER
    → Run (opening places limits) events d → MeetsRule d
