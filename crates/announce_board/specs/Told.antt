-- What a step tells its pen of the desk that it found, whatever desk it was that meets the rule.
use Rattle.std.specs.Prelude.{◌≡◌, ◌≢◌, ℕ, ◌<◌, ◌⊎◌, true, List, Some}
use Rattle.std.specs.List.{AllByRecursion}
use Rattle.pq_types.specs.Item.{Item}
use Rattle.pq_types.specs.Asked.{Request}
use Rattle.pq_types.specs.Asked.{Answer}
use Rattle.pq_types.specs.declared.control.Kind.{Kind}
use Rattle.pq_types.specs.declared.control.Outcome.{Outcome}
use Rattle.pq_types.specs.declared.control.Notice.TheVariants.{Entered}
use Rattle.pq_types.specs.declared.control.Control.TheVariants.{Posted, Answered}
use Rattle.pq_types.specs.Asked.{Line}
use Rattle.pq_types.specs.Control.{request_item, answer_item, posted, answered, is_answer, Carries}
use Rattle.pq_types.specs.Mail.{IsSerial}
use Rattle.pq_types.specs.History.{last_serial}
use Rattle.desk_core.specs.Beyond.{IsBeyond}
use Rattle.desk_core.specs.Desk.{Desk}
use Rattle.desk_core.specs.Keeping.{OfEachPen}
use Rattle.desk_core.specs.declared.model.Standing.TheVariants.{Idle, Waiting}
use Rattle.desk_core.specs.declared.model.Due.{Due}
use Rattle.desk_core.specs.declared.model.PenState.{PenState}
use Rattle.announce_board.specs.Asking.{IsAnswerTo, IsAboveAll}

-- The record of a pen that waits for this request has its post or an answer to it, with the item,
-- if there is one. An answer that the pen has seen is the one that stands there. An entered one has its
-- line behind those of the pen's calls, and behind all that it knew when it posted; none stands there once the pen was told that
-- the journal is full.
pub record WaiterIsTold (d : Desk) (p : PenState) (request : Request) : Type 0 where
  pub found :
      ((d.control p.place ≡ posted p.posts request) × Carries (request_item request) (d.item p.place))
      ⊎ ((answer : Answer) × (d.control p.place ≡ answered answer) × IsAnswerTo p.room request answer
      × Carries (answer_item answer) (d.item p.place))
  pub own : is_answer p.own ≡ true → d.control p.place ≡ p.own
  pub behind : (number : ℕ) (outcome : Outcome) → d.control p.place ≡ Answered (Entered number outcome) → IsAboveAll number p.mine
  pub beyond : (number : ℕ) (outcome : Outcome) → d.control p.place ≡ Answered (Entered number outcome) → IsBeyond p number
  pub barred : p.told_full ≡ true → (number : ℕ) (outcome : Outcome) → d.control p.place ≢ Answered (Entered number outcome)

abbrev pub WaitersAreTold : Type 0
WaitersAreTold = OfEachPen (λ d seat p. (request : Request) → p.standing ≡ Waiting request → WaiterIsTold d p request)

-- What a leader finds posted is new: its serial is proper, and above that of each line of its place
-- in the hand; and at its own place it is its last.
pub record IsNewPost (p : PenState) (place serial : ℕ) : Type 0 where
  pub in_range : IsSerial serial
  pub above : AllByRecursion (λ l. place ≡ l.place → l.serial < serial) p.hand
  pub own : place ≡ p.place → serial ≡ p.posts

abbrev pub PostsAreNew : Type 0
PostsAreNew = OfEachPen (λ d seat p.
    (place serial : ℕ) (k : Kind) → p.leading ≡ true → d.control place ≡ Posted serial k → IsNewPost p place serial)

-- what is due still stands posted
abbrev pub DuesStand : Type 0
DuesStand = OfEachPen (λ d seat p. (due : Due) → p.due ≡ Some due → d.control due.place ≡ Posted due.serial due.kind)

-- a serial above each of its place is above the greatest
abbrev pub AboveTheLast : Type 0
AboveTheLast = (place serial : ℕ) (journal : List Line) → IsSerial serial
    → AllByRecursion (λ l. place ≡ l.place → l.serial < serial) journal → last_serial place journal < serial

-- What a pen knows of an item cell still stands there: its draft; what a leader has read of what is due, or laid there; and what
-- a waiting pen has seen beside its answer.
pub record CellsStand : Type 0 where
  pub draft : OfEachPen (λ d seat p. (x : Item) → p.standing ≡ Idle (Some x) → d.item p.place ≡ x)
  pub due : OfEachPen (λ d seat p. (due : Due) (x : Item) → p.due ≡ Some due → due.item ≡ Some x → d.item due.place ≡ x)
  pub seen : OfEachPen (λ d seat p. (x : Item) → p.seen ≡ Some x → d.item p.place ≡ x)
