-- What is true of testimonies: the pens of all of them fit one history, and one journal, which linearizes it.
use Rattle.std.specs.Prelude.{◌≡◌, ◌≤◌, ℕ, ◌<◌, List, slice_get, Some}
use mathlib.Core.Option.{some}
use lib.ListN.{get_elem?}
use Rattle.pq_types.specs.Asked.{Request, Reply, Line}
use Rattle.pq_types.specs.Operation.{Asked}
use Rattle.pq_types.specs.declared.answer.Answer.TheVariants.{Entered}
use Rattle.pq_types.specs.declared.journal.TheConstants.{GREATEST_NUMBER}
use Rattle.pq_types.specs.History.{Limits}
use Rattle.desk_core.specs.CallLines.{IsLineOf}
use Rattle.desk_core.specs.Desk.{Desk, dealer_opening}
use Rattle.desk_core.specs.Clauses.{HasNo}
use Rattle.desk_core.specs.Linearizable.{Act, Begins, Ends, IsIn, Linearizes}
use Rattle.desk_core.specs.Dealing.{Move, DealtRun}
use Rattle.desk_core.specs.Times.{BeganAt, EndedAt, KeepsPosition, IsTimed, IsWhole}
use Rattle.desk_core.specs.declared.model.Call.{Call}
use Rattle.desk_core.specs.declared.model.PenState.{PenState}
use Rattle.desk_core.specs.declared.model.Standing.TheVariants.{Waiting}
use Rattle.desk_core.specs.declared.model.View.TheVariants.{Testimony}

-- the pen has read a call with this serial
abbrev pub HasRead : PenState → ℕ → Type 0
HasRead p serial = (k : ℕ) × (b : Call) × (slice_get p.mine k ≡ Some b) × (b.serial ≡ serial)

-- The pen knows that the journal has room for so many lines. The history has the pen's acts at the positions that it keeps,
-- and no others of its place before any of them. The journal has each call that it has read, on the line of its number. Of the
-- calls that ended at positions which it keeps, it has read each that was entered; and the request for which it waits has begun.
pub record IsWitnessed (room : ℕ) (history : List Act) (journal : List Line) (p : PenState) : Type 0 where
  pub room_is : p.room ≡ room
  pub timed : IsTimed history p
  pub whole : (until : ℕ) → KeepsPosition p until → IsWhole history until p
  pub calls : (k : ℕ) (b : Call) → slice_get p.mine k ≡ Some b → IsLineOf journal p.place b
  pub read :
      (serial n number : ℕ) (reply : Reply) → EndedAt p serial n
      → slice_get history n ≡ Some (Ends p.place serial (Entered number reply)) → HasRead p serial
  pub asked : (request : Request) → p.standing ≡ Waiting request → IsIn history (Begins p.place p.posts (Asked request))

-- There is one history, which has the acts of each of these pens at the positions that the pen keeps. There is one journal,
-- with room for so many lines, which linearizes that history and has each call that the pens have read.
pub record AreLinearized (room : ℕ) (pens : List PenState) : Type 0 where
  pub history : List Act
  pub journal : List Line
  pub linearizes : Linearizes room history journal
  pub witnessed : (k : ℕ) (p : PenState) → slice_get pens k ≡ Some p → IsWitnessed room history journal p

-- so it is of the pens of each testimony, at the end of every run
abbrev pub TestimoniesAreTrue : Type 0
TestimoniesAreTrue =
    (places : ℕ) (limits : Limits) (moves : List Move) (d : Desk) → limits.room ≤ GREATEST_NUMBER
    → DealtRun (dealer_opening places limits) moves d
    → (i : ℕ) (pens : List PenState) (licences : ℕ) → get_elem? d.views i ≡ some (Testimony pens licences)
    → AreLinearized limits.room pens

-- So of two calls that any two of them have read, of which one ended before the other began, it has the earlier line.
abbrev pub LinearizedFollowTime : Type 0
LinearizedFollowTime =
    (room : ℕ) (pens : List PenState) → AreLinearized room pens
    → (i j k l : ℕ) (p q : PenState) (b c : Call) (end begin : ℕ) → slice_get pens i ≡ Some p → slice_get pens j ≡ Some q
    → slice_get p.mine k ≡ Some b → slice_get q.mine l ≡ Some c
    → EndedAt p b.serial end → BeganAt q c.serial begin → end < begin
    → b.number < c.number

-- And a call that one of them knows as ended, and has not read, was refused: it stands nowhere in that journal.
abbrev pub RefusedStandNowhere : Type 0
RefusedStandNowhere =
    (room : ℕ) (pens : List PenState) → (h : AreLinearized room pens) → (i : ℕ) (p : PenState) → slice_get pens i ≡ Some p
    → (serial n : ℕ) → EndedAt p serial n → (HasRead p serial → ⊥) → HasNo h.journal p.place serial
