-- Traces: what the threads of a desk do at its table, one atomic step after another, whoever takes it.
use Rattle.std.specs.Prelude.{◌≡◌, ℕ, ◌⊎◌, Bool, List, [], ◌∷◌, ◌++◌, slice_set}
use mathlib.Core.Logic.{inl, inr}
use mathlib.Core.Option.{some}
use lib.ListN.{get_elem?}
use Rattle.atomic_table.specs.Table.{State, Act, Valid, stepped}
use Rattle.pq_types.specs.Asked.{Line}
use Rattle.desk_core.specs.Clauses.{LockClause}
use Rattle.desk_core.specs.Dealing.{Move, Deals, Takes, CatchesUp, Writes, Hears, Copies, Testifies, Retires, Sleeps, Wakes, Gathers, Happens, DealtRun}
use Rattle.desk_core.specs.Desk.{Desk, Has, acts_number, dealer_opening}
use Rattle.desk_core.specs.Looking.{Sight, LinearizesLooks, acts_among, move_sights_of, dealt_sights}
use Rattle.desk_core.specs.Rule.{StartsWith}
use Rattle.desk_core.specs.Steps.{actor}
use Rattle.desk_core.specs.Times.{IsWhole, AreTimed}
use Rattle.desk_core.specs.declared.model.PenState.{PenState}
use Rattle.desk_core.specs.declared.model.View.{View}
use Rattle.announce_board.specs.Allowed.{desk_in}
use Rattle.announce_board.specs.Rule.{Keeps}
use Rattle.announce_board.specs.declared.terms.Terms.{Terms}
use Rattle.announce_board.specs.Slots.{Slotted, first_limits}

-- One step of a table: a seat with these slots makes this of the word at an index, has this view then, and takes or gives slots by
-- this act; or a seat is cut in two; or one takes in what another has.
pub data TableStep : Type 0 where
  Plays : (seat index word : ℕ) (slots : List (ℕ × Slotted)) (view : View) (act : Act Slotted) → TableStep
  Cuts : (seat : ℕ) (left right : View) → TableStep
  Joins : (seat other : ℕ) (both spent : View) → TableStep

-- whose step it is
abbrev pub taker : TableStep → ℕ
taker (Plays seat index word slots view act) = seat
taker (Cuts seat left right) = seat
taker (Joins seat other both spent) = seat

-- the table after the step
abbrev pub after_step : State Slotted View → TableStep → State Slotted View
after_step s (Plays seat index word slots view act) = stepped s index word seat slots view act
after_step s (Cuts seat left right) = record { words = s.words; homes = s.homes; views = slice_set s.views seat left ++ right ∷ [] }
after_step s (Joins seat other both spent) =
    record { words = s.words; homes = s.homes; views = slice_set (slice_set s.views seat both) other spent }

-- there is a seat of this number
abbrev pub IsSeat : State Slotted View → ℕ → Type 0
IsSeat s seat = (v : View) × (get_elem? s.views seat ≡ some v)

-- The step can be taken: its seats are there, and so are the slots that it takes.
abbrev pub CanBeTaken : State Slotted View → TableStep → Type 0
CanBeTaken s (Plays seat index word slots view act) = IsSeat s seat × Valid s.homes slots act
CanBeTaken s (Cuts seat left right) = IsSeat s seat
CanBeTaken s (Joins seat other both spent) = IsSeat s seat × IsSeat s other × ¬ (other ≡ seat)

-- whose move of the machine it is
abbrev pub mover : Move → ℕ
mover (Deals seat) = seat
mover (Takes event) = actor event
mover (CatchesUp seat) = seat
mover (Writes seat) = seat
mover (Hears seat other) = seat
mover (Copies seat) = seat
mover (Testifies seat) = seat
mover (Retires seat) = seat
mover (Sleeps seat) = seat
mover (Wakes seat other) = seat
mover (Gathers seat other) = seat

-- from the one desk to the other it is a move of the machine by this seat; or nothing changes
abbrev pub MovesOrStays : ℕ → Desk → Desk → Type 0
MovesOrStays seat d d' = ((x : Move) × (mover x ≡ seat) × Happens d x d') ⊎ (d' ≡ d)

-- what is seen of it: the acts of calls, and the look, of the move
abbrev pub seen_of : (seat : ℕ) (d d' : Desk) → MovesOrStays seat d d' → List Sight
seen_of seat d d' (inl moves) = move_sights_of d moves.0 d' moves.2
seen_of seat d d' (inr stays) = []

module _ (wide : Bool) (roomy : ℕ → Type 0) (room : ℕ) (terms : Terms) (places : ℕ) where
  -- a table that keeps the rule of desks
  abbrev pub Table : Type 0
  Table = (s : State Slotted View) × Keeps wide roomy room terms places s

  -- the desk as which it stands
  abbrev pub desk_at : Table → Desk
  desk_at t = desk_in t.1

  -- These steps, the first of the list first, lead from the one table to the other. Each is a move of the desk's machine by the seat
  -- that takes it, or changes nothing of the desk.
  abbrev pub Trace : Table → List TableStep → Table → Type 0
  Trace t [] t' = t' ≡ t
  Trace t (x ∷ xs) t' =
      CanBeTaken t.0 x
      × (k : Keeps wide roomy room terms places (after_step t.0 x))
      × MovesOrStays (taker x) (desk_at t) (desk_in k)
      × Trace (after_step t.0 x, k) xs t'

  -- all that is seen of a trace, in its order
  abbrev pub seen_in : (t : Table) (steps : List TableStep) (t' : Table) → Trace t steps t' → List Sight
  seen_in t [] t' trace = []
  seen_in t (x ∷ xs) t' trace =
      seen_of (taker x) (desk_at t) (desk_in trace.1) trace.2 ++ seen_in (after_step t.0 x, trace.1) xs t' trace.3

  -- The trace is one run of the machine from its opening with a dealer. Of this run is seen just what is seen of the trace. The
  -- journal, that of the Book at home or in the leader's hand, linearizes all of that, looks too; and the positions that the pens
  -- keep are those of their own acts in it, each of which is some pen's.
  pub record IsOneRun (t : Table) (seen : List Sight) : Type 0 where
    pub moves : List Move
    pub run : DealtRun (dealer_opening places (first_limits room terms)) moves (desk_at t)
    pub sees : dealt_sights (dealer_opening places (first_limits room terms)) moves (desk_at t) run ≡ seen
    pub journal : List Line
    pub lock : LockClause (desk_at t) journal
    pub looks : LinearizesLooks room seen journal
    pub timed : AreTimed t.0.views (acts_among seen)
    pub whole : (i : ℕ) (p : PenState) → Has t.0.views i p → IsWhole (acts_among seen) (acts_number t.0.views) p

  -- so is each trace from a table that stands as the machine's opening, to wherever it has come
  abbrev pub TracesAreRuns : Type 0
  TracesAreRuns =
      (t t' : Table) (steps : List TableStep) → desk_at t ≡ dealer_opening places (first_limits room terms)
      → (trace : Trace t steps t') → IsOneRun t' (seen_in t steps t' trace)

  -- and the journal of a longer trace begins with that of a shorter one
  abbrev pub JournalsGrow : Type 0
  JournalsGrow =
      (t m t' : Table) (before after : List TableStep) (journal journal' : List Line)
      → desk_at t ≡ dealer_opening places (first_limits room terms)
      → Trace t before m → LockClause (desk_at m) journal → Trace m after t' → LockClause (desk_at t') journal'
      → StartsWith journal' journal

-- of each desk
abbrev pub EachTraceIsARun : Bool → (ℕ → Type 0) → Type 0
EachTraceIsARun wide roomy = (room : ℕ) (terms : Terms) (places : ℕ) → TracesAreRuns wide roomy room terms places

abbrev pub EachJournalGrows : Bool → (ℕ → Type 0) → Type 0
EachJournalGrows wide roomy = (room : ℕ) (terms : Terms) (places : ℕ) → JournalsGrow wide roomy room terms places
