-- The rule of the desk in plain clauses: which of them protects whom from what is told in
-- docs/MODEL.md.
use Rattle.std.specs.Prelude.{◌≡◌, ◌≢◌, ℕ, ◌-◌, ◌<◌, ◌≤◌, ◌⊎◌, true, false, List, [], ◌∷◌, ◌++◌, length, slice_get, Some, None}
use Rattle.std.specs.List.{AllByRecursion}
use Rattle.pq_types.specs.Item.{Item}
use Rattle.pq_types.specs.Asked.{Request}
use Rattle.pq_types.specs.declared.request.Request.TheVariants.{Push}
use Rattle.pq_types.specs.Asked.{Reply}
use Rattle.pq_types.specs.Asked.{Answer}
use Rattle.pq_types.specs.declared.answer.Answer.TheVariants.{Entered, BookFull, NoMemory, Refused}
use Rattle.pq_types.specs.declared.control.Kind.TheVariants as kind
use Rattle.pq_types.specs.declared.control.Control.{Control}
use Rattle.pq_types.specs.declared.control.Control.TheVariants.{Nothing, Posted}
use Rattle.pq_types.specs.Asked.{Line}
use Rattle.pq_types.specs.declared.journal.TheConstants.{GREATEST_NUMBER}
use Rattle.pq_types.specs.Queue.{IsPush}
use Rattle.pq_types.specs.History.{line, IsLegal, SerialsRise, HeedsShut, Limits}
use Rattle.desk_core.specs.Answering.{Bars, IsBarred}
use Rattle.pq_types.specs.Mail.{IsLineNumber}
use Rattle.pq_types.specs.Control.{request_item, reply_item, posted, answered, Carries, is_posted, is_answer}
use Rattle.desk_core.specs.Calls.{call, calls_of}
use Rattle.desk_core.specs.Pen.{IsIdle}
use Rattle.desk_core.specs.Desk.{Desk, Has, AtHome, opening}
use Rattle.desk_core.specs.Steps.{Event, actor, Step, Run}
use Rattle.desk_core.specs.Rule.{StartsWith, above_mine, MeetsRule}
use Rattle.desk_core.specs.declared.model.Standing.TheVariants.{Idle, Waiting}
use Rattle.desk_core.specs.declared.model.Due.{Due}
use Rattle.desk_core.specs.declared.model.PenState.{PenState}

-- Lock. The lock is free, the Book is at home with its room and the journal, and no pen leads; or
-- it is held, the Book is out, and exactly one pen leads, with the journal in its hand.
abbrev pub LockClause : Desk → List Line → Type 0
LockClause d journal =
    ((d.held ≡ false) × AtHome d.home d.room journal × ((i : ℕ) (p : PenState) → Has d.views i p → p.leading ≡ false))
    ⊎ ((d.held ≡ true) × (d.home ≡ None)
    × ((i : ℕ) × (p : PenState) × Has d.views i p × (p.leading ≡ true) × (p.hand ≡ journal)
    × ((j : ℕ) (q : PenState) → Has d.views j q → q.leading ≡ true → j ≡ i)))

-- Journal. It is a legal history of the one-thread queue, the serials of each place rise, no push
-- stands behind a shut line, and it has room for its lines.
pub record JournalClause (room : ℕ) (journal : List Line) : Type 0 where
  pub legal : IsLegal journal
  pub rise : SerialsRise journal
  pub heeds : HeedsShut journal
  pub within : length journal ≤ room

-- the journal has no line of this place with this serial
abbrev pub HasNo : List Line → ℕ → ℕ → Type 0
HasNo journal place serial = AllByRecursion (λ l. place ≡ l.place → l.serial ≢ serial) journal

-- what an answer to a pen's request says of the journal: an entered one stands there at its line;
-- the other two come for their reason, and leave no line
abbrev pub AnswerClause : ℕ → List Line → PenState → Request → Answer → Type 0
AnswerClause room journal p request (Entered number reply) =
    IsLineNumber number × (slice_get journal (number - 1) ≡ Some (line p.place p.posts request reply))
AnswerClause room journal p request BookFull = (length journal ≡ room) × HasNo journal p.place p.posts
AnswerClause room journal p request NoMemory = IsPush request × HasNo journal p.place p.posts
AnswerClause room journal p request (Refused why) = IsBarred request why × Bars journal why × HasNo journal p.place p.posts

-- Controls. A pen that has used no serial has nothing in its control; an idle pen has an answer there, or nothing, and that only
-- where it has never posted: it has stored and seen nothing there; a pen that waits has there its request under its last serial,
-- or an answer to it.
pub record ControlClause (room : ℕ) (journal : List Line) (control : Control) (p : PenState) : Type 0 where
  pub never : p.posts ≡ 0 → IsIdle p.standing × (control ≡ Nothing)
  pub idle : IsIdle p.standing → ((control ≡ Nothing) × (p.own ≡ Nothing)) ⊎ ((answer : Answer) × (control ≡ answered answer))
  pub waits :
      (request : Request) → p.standing ≡ Waiting request
      → (control ≡ posted p.posts request)
      ⊎ ((answer : Answer) × (control ≡ answered answer) × AnswerClause room journal p request answer)

-- Calls. The journal's lines of a pen's place are those that it has read whole, in their order and
-- at their numbers, and then at most one: the entered answer that stands in the record of a waiting
-- pen, which it has not read whole. The serials that it has read are at most its posts, and below
-- them while it waits.
pub record CallsClause (journal : List Line) (control : Control) (p : PenState) : Type 0 where
  pub lines :
      (calls_of p.place journal ≡ p.mine)
      ⊎ ((request : Request) × (number : ℕ) × (reply : Reply)
      × (p.standing ≡ Waiting request) × (control ≡ answered (Entered number reply))
      × (calls_of p.place journal ≡ p.mine ++ call number p.posts request reply ∷ []))
  pub serials : AllByRecursion (λ c. c.serial < above_mine p.posts p.standing) p.mine

-- Due. What is due to a leader still stands posted in its place, and nothing is due to any other
-- pen.
abbrev pub DueClause : Desk → PenState → Type 0
DueClause d p = (due : Due) → p.due ≡ Some due → (p.leading ≡ true) × (d.control due.place ≡ Posted due.serial due.kind)

-- Items. A draft still stands in the cell of its pen. While a pen waits, the cell has the item of
-- its request where that stands posted, and that of the reply at its line where an entered answer
-- does, if they have one. The item that a leader knows of what is due, read or laid, still stands
-- there, and one that it has read is that of the push which waits there. The item that a pen has seen
-- beside its answer still stands there.
pub record ItemsClause (d : Desk) (journal : List Line) (p : PenState) : Type 0 where
  pub draft : (x : Item) → p.standing ≡ Idle (Some x) → d.item p.place ≡ x
  pub posted :
      (request : Request) → p.standing ≡ Waiting request → is_posted (d.control p.place) ≡ true
      → Carries (request_item request) (d.item p.place)
  pub answered :
      (request : Request) (number : ℕ) (reply : Reply) → p.standing ≡ Waiting request
      → d.control p.place ≡ answered (Entered number reply)
      → slice_get journal (number - 1) ≡ Some (line p.place p.posts request reply) → Carries (reply_item reply) (d.item p.place)
  pub known : (due : Due) (x : Item) → p.due ≡ Some due → due.item ≡ Some x → d.item due.place ≡ x
  pub read :
      (due : Due) (x : Item) → p.due ≡ Some due → due.item ≡ Some x → due.kind ≡ kind.Push
      → (i : ℕ) × (q : PenState) × Has d.views i q × (q.place ≡ due.place) × (q.posts ≡ due.serial)
      × (q.standing ≡ Waiting (Push x))
  pub seen : (x : Item) → p.seen ≡ Some x → d.item p.place ≡ x

-- All clauses, where this is the journal. Known: the journal that a pen knows is a beginning
-- of it. Own: an answer that a pen last saw or stored at its own place still stands there. Full: where a pen was told that the
-- journal is full, it is, so that no line comes to it from then on.
pub record Clauses (d : Desk) (now : List Line) : Type 0 where
  pub lock : LockClause d now
  pub journal : JournalClause d.room now
  pub controls : (i : ℕ) (p : PenState) → Has d.views i p → ControlClause d.room now (d.control p.place) p
  pub calls : (i : ℕ) (p : PenState) → Has d.views i p → CallsClause now (d.control p.place) p
  pub known : (i : ℕ) (p : PenState) → Has d.views i p → StartsWith now p.known
  pub own : (i : ℕ) (p : PenState) → Has d.views i p → is_answer p.own ≡ true → d.control p.place ≡ p.own
  pub full : (i : ℕ) (p : PenState) → Has d.views i p → p.told_full ≡ true → length now ≡ d.room
  pub due : (i : ℕ) (p : PenState) → Has d.views i p → DueClause d p
  pub items : (i : ℕ) (p : PenState) → Has d.views i p → ItemsClause d now p

-- whatever desk meets the rule has a journal of which the clauses hold
abbrev pub RuleGivesClauses : Type 0
RuleGivesClauses = (d : Desk) → MeetsRule d → (journal : List Line) × Clauses d journal

-- and so has the desk at the end of every run from the opening
abbrev pub EveryRunMeetsClauses : Type 0
EveryRunMeetsClauses =
    (places : ℕ) (limits : Limits) (events : List Event) (d : Desk) → limits.room ≤ GREATEST_NUMBER → Run (opening places limits) events d
    → (journal : List Line) × Clauses d journal

-- who may store in the item cell of this place: its own pen while it is idle; or the leader that
-- has read its record posted, a pop or least, which still stands there
abbrev pub MayStoreItem : Desk → ℕ → PenState → Type 0
MayStoreItem d place p =
    (IsIdle p.standing × (p.place ≡ place))
    ⊎ ((p.leading ≡ true)
    × ((due : Due) × (p.due ≡ Some due) × (due.place ≡ place) × (due.kind ≢ kind.Push)
    × (d.control place ≡ Posted due.serial due.kind)))

-- Items. No other step changes an item cell.
abbrev pub ItemsAreStored : Type 0
ItemsAreStored =
    (d d' : Desk) (e : Event) (place : ℕ) → MeetsRule d → Step d e d'
    → (d'.item place ≡ d.item place) ⊎ ((p : PenState) × Has d.views (actor e) p × MayStoreItem d place p)
