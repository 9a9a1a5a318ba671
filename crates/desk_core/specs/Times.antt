-- When the calls of a desk's pens began and ended: each pen keeps the positions of its own acts in the history of the desk.
-- So of the calls of any two pens it can be told which one ended before the other began, and the journal has their lines
-- in that order.
use Rattle.std.specs.Prelude.{◌≡◌, ℕ, ◌<◌, ◌≤◌, ◌⊎◌, List, length, slice_get, Some}
use Rattle.pq_types.specs.Asked.{Operation}
use Rattle.pq_types.specs.Asked.{Answer}
use Rattle.pq_types.specs.declared.journal.TheConstants.{GREATEST_NUMBER}
use Rattle.pq_types.specs.History.{Limits}
use Rattle.desk_core.specs.Desk.{Desk, Has, acts_number, time, dealer_opening}
use Rattle.desk_core.specs.Linearizable.{Act, Begins, Ends}
use Rattle.desk_core.specs.Dealing.{Move, DealtRun, dealt_history}
use Rattle.desk_core.specs.declared.model.Call.{Call}
use Rattle.desk_core.specs.declared.model.PenState.{PenState}
use Rattle.desk_core.specs.declared.model.View.{View}

-- the pen's call with this serial began at this position of the history
abbrev pub BeganAt : PenState → ℕ → ℕ → Type 0
BeganAt p serial n = (i : ℕ) × (slice_get p.begins i ≡ Some (serial, n))

-- it ended there
abbrev pub EndedAt : PenState → ℕ → ℕ → Type 0
EndedAt p serial n = (i : ℕ) × (slice_get p.ends i ≡ Some (serial, n))

-- the pen keeps this position
abbrev pub KeepsPosition : PenState → ℕ → Type 0
KeepsPosition p n = ((serial : ℕ) × BeganAt p serial n) ⊎ ((serial : ℕ) × EndedAt p serial n)

-- At the positions that the pen keeps the history has the beginnings and the ends of its calls.
pub record IsTimed (history : List Act) (p : PenState) : Type 0 where
  pub begun :
      (serial n : ℕ) → BeganAt p serial n
      → (operation : Operation) × (slice_get history n ≡ Some (Begins p.place serial operation))
  pub ended :
      (serial n : ℕ) → EndedAt p serial n
      → (answer : Answer) × (slice_get history n ≡ Some (Ends p.place serial answer))

-- Before this position the history has no other acts of the pen's place than those whose positions the pen keeps.
pub record IsWhole (history : List Act) (until : ℕ) (p : PenState) : Type 0 where
  pub begun :
      (serial n : ℕ) (operation : Operation) → n < until → slice_get history n ≡ Some (Begins p.place serial operation)
      → BeganAt p serial n
  pub ended :
      (serial n : ℕ) (answer : Answer) → n < until → slice_get history n ≡ Some (Ends p.place serial answer)
      → EndedAt p serial n

-- So it is of each pen; and each position of the history is one that a pen keeps.
pub record AreTimed (views : List View) (history : List Act) : Type 0 where
  pub counted : length history ≡ acts_number views
  pub pens : (i : ℕ) (p : PenState) → Has views i p → IsTimed history p
  pub kept : (n : ℕ) → n < length history → (i : ℕ) × (p : PenState) × Has views i p × KeepsPosition p n

-- so it is at the end of every run
abbrev pub EveryDealtRunIsTimed : Type 0
EveryDealtRunIsTimed =
    (places : ℕ) (limits : Limits) (moves : List Move) (d : Desk) → (run : DealtRun (dealer_opening places limits) moves d)
    → AreTimed d.views (dealt_history (dealer_opening places limits) moves d run)

-- and of each pen that has come out the history has no other acts than it keeps
abbrev pub EveryDealtRunIsWhole : Type 0
EveryDealtRunIsWhole =
    (places : ℕ) (limits : Limits) (moves : List Move) (d : Desk) → limits.room ≤ GREATEST_NUMBER
    → (run : DealtRun (dealer_opening places limits) moves d)
    → (i : ℕ) (p : PenState) → Has d.views i p
    → IsWhole (dealt_history (dealer_opening places limits) moves d run) (time d) p

-- Of two calls of any two pens, or of one, each of which its pen has read, and of which the first ended before the second
-- began, as the pens know it, the first has the earlier line.
abbrev pub CallsFollowTime : Desk → Type 0
CallsFollowTime d =
    (i j : ℕ) (p q : PenState) (k l : ℕ) (b c : Call) (end begin : ℕ) → Has d.views i p → Has d.views j q
    → slice_get p.mine k ≡ Some b → slice_get q.mine l ≡ Some c
    → EndedAt p b.serial end → BeganAt q c.serial begin → end < begin
    → b.number < c.number

-- so it is at the end of every run
abbrev pub TimesOrderCalls : Type 0
TimesOrderCalls =
    (places : ℕ) (limits : Limits) (moves : List Move) (d : Desk) → limits.room ≤ GREATEST_NUMBER
    → DealtRun (dealer_opening places limits) moves d → CallsFollowTime d
