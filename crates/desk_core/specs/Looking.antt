-- Looks without a request. A thread wins the lock and serves others. It sees in the journal what it wants to know, such as which item
-- is first or how many wait, and releases without a request of its own. Each look has a place in the order of the calls.
use Rattle.std.specs.Prelude.{◌≡◌, ℕ, ◌<◌, ◌≤◌, List, [], ◌∷◌, ◌++◌, length, map, take, slice_get, Some}
use Rattle.pq_types.specs.Asked.{Operation}
use Rattle.pq_types.specs.Asked.{Answer}
use Rattle.pq_types.specs.Asked.{Line}
use Rattle.pq_types.specs.declared.journal.TheConstants.{GREATEST_NUMBER}
use Rattle.pq_types.specs.History.{Limits}
use Rattle.desk_core.specs.CallLines.{IsLineOf}
use Rattle.desk_core.specs.Clauses.{LockClause}
use Rattle.desk_core.specs.Desk.{Desk, opening, dealer_opening}
use Rattle.desk_core.specs.Steps.{Event, Releases, Step, Run}
use Rattle.desk_core.specs.Rule.{StartsWith, MeetsRule}
use Rattle.desk_core.specs.Linearizable.{Act, Begins, Ends, Linearizes, acts, history}
use Rattle.desk_core.specs.Dealing.{Move, Takes, Happens, DealtRun, acts_of, dealt_history}
use Rattle.desk_core.specs.declared.model.Call.{Call}

-- What is seen of a run with its looks: an act of a call; or a look by the pen of this place, which finds this journal. The look may
-- return whatever that tells: the first item that it leaves, or how many.
pub data Sight : Type 0 where
  Called : (act : Act) → Sight
  Looked : (place : ℕ) (found : List Line) → Sight

-- the acts of calls alone
abbrev pub acts_among : List Sight → List Act
acts_among [] = []
acts_among (Called act ∷ sights) = act ∷ acts_among sights
acts_among (Looked place found ∷ sights) = acts_among sights

-- A release without a request is a look, which finds the journal in the leader's hand. In code a look begins before this step and ends
-- after it. So it is longer there, and of longer looks fewer are in an order.
abbrev pub look_of : (d : Desk) (e : Event) (d' : Desk) → Step d e d' → List Sight
look_of d (Releases seat) d' step = Looked step.0.place step.0.hand ∷ []
look_of d e d' step = []

-- what is seen of a step
abbrev pub sights_of : (d : Desk) (e : Event) (d' : Desk) → Step d e d' → List Sight
sights_of d e d' step = map Called (acts d e d' step) ++ look_of d e d' step

-- what is seen of a run, in its order
abbrev pub sights : (d : Desk) (events : List Event) (d' : Desk) → Run d events d' → List Sight
sights d [] d' run = []
sights d (e ∷ es) d' run = sights_of d e run.0 run.1 ++ sights run.0 es d' run.2

-- a move has the look of its step
abbrev pub move_look_of : (d : Desk) (x : Move) (d' : Desk) → Happens d x d' → List Sight
move_look_of d (Takes event) d' step = look_of d event d' step
move_look_of d x d' move = []

-- what is seen of a move
abbrev pub move_sights_of : (d : Desk) (x : Move) (d' : Desk) → Happens d x d' → List Sight
move_sights_of d x d' move = map Called (acts_of d x d' move) ++ move_look_of d x d' move

-- what is seen of a run with a dealer, in its order
abbrev pub dealt_sights : (d : Desk) (moves : List Move) (d' : Desk) → DealtRun d moves d' → List Sight
dealt_sights d [] d' run = []
dealt_sights d (x ∷ xs) d' run = move_sights_of d x run.0 run.1 ++ dealt_sights run.0 xs d' run.2

-- without its looks it is the history
pub record LooksAreMore : Type 0 where
  pub runs : (d d' : Desk) (events : List Event) (run : Run d events d') → acts_among (sights d events d' run) ≡ history d events d' run
  pub dealt :
      (d d' : Desk) (moves : List Move) (run : DealtRun d moves d')
      → acts_among (dealt_sights d moves d' run) ≡ dealt_history d moves d' run

-- The journal that a look finds is the one that stands there, and its step leaves it so.
abbrev pub LooksFindTheJournal : Type 0
LooksFindTheJournal =
    (d d' : Desk) (seat : ℕ) (journal : List Line) → MeetsRule d → LockClause d journal → (step : Step d (Releases seat) d')
    → (step.0.hand ≡ journal) × LockClause d' journal

-- The look at this position has its place in the order, after the lines that it finds. They are the first lines of the journal, and
-- linearize what was seen before the look. A call that ended before it has its line among them, if it ever gets one. The line of a
-- call that begins later comes after all of them.
pub record IsPlaced (room : ℕ) (seen : List Sight) (journal : List Line) (i : ℕ) (found : List Line) : Type 0 where
  pub starts : StartsWith journal found
  pub linearizes : Linearizes room (acts_among (take i seen)) found
  pub ended :
      (end place : ℕ) (answer : Answer) (c : Call) → end < i → slice_get seen end ≡ Some (Called (Ends place c.serial answer))
      → IsLineOf journal place c
      → c.number ≤ length found
  pub begun :
      (begin place : ℕ) (operation : Operation) (c : Call) → i < begin
      → slice_get seen begin ≡ Some (Called (Begins place c.serial operation)) → IsLineOf journal place c
      → length found < c.number

-- The journal linearizes what is seen, looks too. It linearizes the calls, each look has its place among them, and of two looks the
-- later one finds what the earlier one found, and maybe more.
pub record LinearizesLooks (room : ℕ) (seen : List Sight) (journal : List Line) : Type 0 where
  pub calls : Linearizes room (acts_among seen) journal
  pub looks :
      (i place : ℕ) (found : List Line) → slice_get seen i ≡ Some (Looked place found) → IsPlaced room seen journal i found
  pub rise :
      (i j place place' : ℕ) (found found' : List Line) → i < j → slice_get seen i ≡ Some (Looked place found)
      → slice_get seen j ≡ Some (Looked place' found')
      → StartsWith found' found

-- every run of the desk from the opening is linearized so by its journal, that of the Book at home or in the leader's hand
abbrev pub EveryRunLinearizesLooks : Type 0
EveryRunLinearizesLooks =
    (places : ℕ) (limits : Limits) (events : List Event) (d : Desk) → limits.room ≤ GREATEST_NUMBER → (run : Run (opening places limits) events d)
    → (journal : List Line) × LockClause d journal × LinearizesLooks limits.room (sights (opening places limits) events d run) journal

-- and so is every run of a desk that opens with a dealer
abbrev pub EveryDealtRunLinearizesLooks : Type 0
EveryDealtRunLinearizesLooks =
    (places : ℕ) (limits : Limits) (moves : List Move) (d : Desk) → limits.room ≤ GREATEST_NUMBER
    → (run : DealtRun (dealer_opening places limits) moves d)
    → (journal : List Line) × LockClause d journal
    × LinearizesLooks limits.room (dealt_sights (dealer_opening places limits) moves d run) journal
