-- A desk that opens with a dealer, as running desks do: its pens come out one by one, among the steps of those that are out,
-- which also tell each other by notes what they know. Each run of it is linearizable too.
use Rattle.std.specs.Prelude.{◌≡◌, ℕ, ◌+◌, ◌<◌, ◌≤◌, List, [], ◌∷◌, ◌++◌, length, slice_set}
use mathlib.Core.Option.{some}
use lib.ListN.{get_elem?}
use Rattle.pq_types.specs.Asked.{Operation}
use Rattle.pq_types.specs.Asked.{Answer}
use Rattle.pq_types.specs.Asked.{Line}
use Rattle.pq_types.specs.declared.journal.TheConstants.{GREATEST_NUMBER}
use Rattle.pq_types.specs.History.{Limits}
use Rattle.desk_core.specs.CallLines.{IsLineOf}
use Rattle.desk_core.specs.Clauses.{LockClause}
use Rattle.desk_core.specs.Pen.{new_pen}
use Rattle.desk_core.specs.Desk.{Desk, dealer_opening}
use Rattle.desk_core.specs.Steps.{Event, Step}
use Rattle.desk_core.specs.Rule.{StartsWith, MeetsRule}
use Rattle.desk_core.specs.Notes.{StepsCatchUp, StepsWrite, StepsHear, StepsCopy}
use Rattle.desk_core.specs.Testimonies.{StepsTestify, StepsRetire, StepsSleep, StepsWake, StepsGather}
use Rattle.desk_core.specs.Linearizable.{Act, Begins, Ends, IsIn, Linearizes, acts}
use Rattle.desk_core.specs.declared.model.Call.{Call}
use Rattle.desk_core.specs.declared.model.View.TheVariants.{Dealer, Holder}

-- What may happen there: the dealer at a seat gives out the pen of its next place; a pen takes a step; a pen catches up with
-- the journal, writes a note, or hears the note at another seat; a note is copied; a pen gives testimony, retires, falls asleep,
-- or is woken by the licence at another seat; or two testimonies are put together.
pub data Move : Type 0 where
  Deals : (seat : ℕ) → Move
  Takes : (event : Event) → Move
  CatchesUp : (seat : ℕ) → Move
  Writes : (seat : ℕ) → Move
  Hears : (seat other : ℕ) → Move
  Copies : (seat : ℕ) → Move
  Testifies : (seat : ℕ) → Move
  Retires : (seat : ℕ) → Move
  Sleeps : (seat : ℕ) → Move
  Wakes : (seat other : ℕ) → Move
  Gathers : (seat other : ℕ) → Move

-- the dealer at this seat gives out the pen of its next place, which gets a seat behind all others
abbrev pub DealsPen : Desk → ℕ → Desk → Type 0
DealsPen d seat d' =
    (next : ℕ) × (known_room : ℕ) × (get_elem? d.views seat ≡ some (Dealer next known_room)) × (next < d.places)
    × (d' ≡ record d { views = slice_set d.views seat (Dealer (next + 1) known_room) ++ Holder (new_pen known_room next) ∷ [] })

-- it happens so, and leads from the first desk to the second
abbrev pub Happens : Desk → Move → Desk → Type 0
Happens d (Deals seat) d' = DealsPen d seat d'
Happens d (Takes event) d' = Step d event d'
Happens d (CatchesUp seat) d' = StepsCatchUp d seat d'
Happens d (Writes seat) d' = StepsWrite d seat d'
Happens d (Hears seat other) d' = StepsHear d seat other d'
Happens d (Copies seat) d' = StepsCopy d seat d'
Happens d (Testifies seat) d' = StepsTestify d seat d'
Happens d (Retires seat) d' = StepsRetire d seat d'
Happens d (Sleeps seat) d' = StepsSleep d seat d'
Happens d (Wakes seat other) d' = StepsWake d seat other d'
Happens d (Gathers seat other) d' = StepsGather d seat other d'

-- these moves, the first of the list first, lead from the first desk to the second
abbrev pub DealtRun : Desk → List Move → Desk → Type 0
DealtRun d [] d' = d' ≡ d
DealtRun d (x ∷ xs) d' = (m : Desk) × Happens d x m × DealtRun m xs d'

-- what callers see of a move: nothing of a pen that is given out, nor of what pens tell each other
abbrev pub acts_of : (d : Desk) (x : Move) (d' : Desk) → Happens d x d' → List Act
acts_of d (Deals seat) d' move = []
acts_of d (Takes event) d' step = acts d event d' step
acts_of d (CatchesUp seat) d' step = []
acts_of d (Writes seat) d' step = []
acts_of d (Hears seat other) d' step = []
acts_of d (Copies seat) d' step = []
acts_of d (Testifies seat) d' step = []
acts_of d (Retires seat) d' step = []
acts_of d (Sleeps seat) d' step = []
acts_of d (Wakes seat other) d' step = []
acts_of d (Gathers seat other) d' step = []

-- what they see of such a run, in its order
abbrev pub dealt_history : (d : Desk) (moves : List Move) (d' : Desk) → DealtRun d moves d' → List Act
dealt_history d [] d' run = []
dealt_history d (x ∷ xs) d' run = acts_of d x run.0 run.1 ++ dealt_history run.0 xs d' run.2

-- the desk is at the end of some run from the opening with a dealer
abbrev pub IsReached : ℕ → Limits → Desk → Type 0
IsReached places limits d = (moves : List Move) × DealtRun (dealer_opening places limits) moves d

-- each desk at the end of a run meets the rule
abbrev pub ReachedMeetRule : Type 0
ReachedMeetRule = (places : ℕ) (limits : Limits) (d : Desk) → limits.room ≤ GREATEST_NUMBER → IsReached places limits d → MeetsRule d

-- whatever happens at such a desk leads to another one
abbrev pub MovesReach : Type 0
MovesReach = (places : ℕ) (limits : Limits) (d d' : Desk) (x : Move) → IsReached places limits d → Happens d x d' → IsReached places limits d'

-- Every run of a desk that opens with a dealer is linearized by its journal, that of the Book at home or in the leader's hand.
abbrev pub EveryDealtRunIsLinearizable : Type 0
EveryDealtRunIsLinearizable =
    (places : ℕ) (limits : Limits) (moves : List Move) (d : Desk) → limits.room ≤ GREATEST_NUMBER
    → (run : DealtRun (dealer_opening places limits) moves d)
    → (journal : List Line) × LockClause d journal
    × Linearizes limits.room (dealt_history (dealer_opening places limits) moves d run) journal

-- the order of a longer run begins with that of the shorter one
abbrev pub DealtOrderStays : Type 0
DealtOrderStays =
    (places : ℕ) (limits : Limits) (before after : List Move) (m d : Desk) (journal journal' : List Line) → limits.room ≤ GREATEST_NUMBER
    → DealtRun (dealer_opening places limits) before m → LockClause m journal → DealtRun m after d → LockClause d journal'
    → StartsWith journal' journal

-- each line is made within its call, as of a desk whose pens are all out
abbrev pub DealtLinesAreWithinCalls : Type 0
DealtLinesAreWithinCalls =
    (places : ℕ) (limits : Limits) (before after : List Move) (m d : Desk) (journal journal' : List Line) → limits.room ≤ GREATEST_NUMBER
    → (past : DealtRun (dealer_opening places limits) before m) → LockClause m journal → (rest : DealtRun m after d)
    → LockClause d journal' → (place : ℕ) (c : Call) → IsLineOf journal' place c
    → ((answer : Answer) → IsIn (dealt_history (dealer_opening places limits) before m past) (Ends place c.serial answer)
    → c.number ≤ length journal)
    × ((operation : Operation) → IsIn (dealt_history m after d rest) (Begins place c.serial operation) → length journal < c.number)
