-- How many lines the journal may have until more are archived: in each run what the opening allows, or a page more than have
-- been said to be archived, where that is more. Nothing else changes a queue's limits.
use Rattle.std.specs.Prelude.{◌≡◌, ℕ, ◌+◌, ◌≤◌, max, min, true, List, [], ◌∷◌, ◌++◌, length, Some}
use Rattle.pq_types.specs.declared.journal.TheConstants.{GREATEST_NUMBER}
use Rattle.pq_types.specs.History.{Limits}
use Rattle.pq_book.specs.Book.{Volume, limits, limits_of}
use Rattle.pq_book.specs.Pages.{page_of}
use Rattle.desk_core.specs.Pen.{allowed_by, limits_in_hand}
use Rattle.desk_core.specs.Desk.{Desk, Has, dealer_opening}
use Rattle.desk_core.specs.Steps.{Event, Archives, Step}
use Rattle.desk_core.specs.Rule.{MeetsRule}
use Rattle.desk_core.specs.Dealing.{Move, Takes, Happens, DealtRun}
use Rattle.desk_core.specs.declared.model.PenState.{PenState}

-- how many lines a step says are archived: those of the journal in the leader's hand
abbrev pub archived_in : (d : Desk) (e : Event) (d' : Desk) → Step d e d' → List ℕ
archived_in d (Archives seat lines) d' step = min lines (length step.0.hand) ∷ []
archived_in d e d' step = []

-- the same of a move
abbrev pub archived_by : (d : Desk) (x : Move) (d' : Desk) → Happens d x d' → List ℕ
archived_by d (Takes event) d' step = archived_in d event d' step
archived_by d x d' move = []

-- and of a run, in its order
abbrev pub archived_of : (d : Desk) (moves : List Move) (d' : Desk) → DealtRun d moves d' → List ℕ
archived_of d [] d' run = []
archived_of d (x ∷ xs) d' run = archived_by d x run.0 run.1 ++ archived_of run.0 xs d' run.2

-- the limits once so many lines are archived, and then so many
abbrev pub limits_after : Limits → List ℕ → Limits
limits_after l [] = l
limits_after l (n ∷ ns) = limits_after (record l { allowed = allowed_by l.room l.allowed n }) ns

-- the Book, at home or in the hand of the pen that leads, has these limits, and no more lines than they allow
pub record HasLimits (d : Desk) (l : Limits) : Type 0 where
  pub home : (book : Volume) → d.home ≡ Some book → (limits_of book ≡ l) × (length book.journal ≤ l.allowed)
  pub hand : (i : ℕ) (p : PenState) → Has d.views i p → p.leading ≡ true → (limits_in_hand p ≡ l) × (length p.hand ≤ l.allowed)

-- so it is after each move, where it was so before
abbrev pub MovesKeepLimits : Type 0
MovesKeepLimits =
    (d d' : Desk) (x : Move) (l : Limits) → MeetsRule d → HasLimits d l → (move : Happens d x d')
    → HasLimits d' (limits_after l (archived_by d x d' move))

-- and at the end of every run
abbrev pub EveryRunHasLimits : Type 0
EveryRunHasLimits =
    (places : ℕ) (l : Limits) (moves : List Move) (d : Desk) → l.room ≤ GREATEST_NUMBER
    → (run : DealtRun (dealer_opening places l) moves d)
    → HasLimits d (limits_after l (archived_of (dealer_opening places l) moves d run))

-- room and bound are constants, and no fewer lines are allowed later
pub record TermsRise (l m : Limits) : Type 0 where
  pub room : m.room ≡ l.room
  pub bound : m.bound ≡ l.bound
  pub allowed : l.allowed ≤ m.allowed

abbrev pub LimitsRise : Type 0
LimitsRise = (l : Limits) (archived : List ℕ) → TermsRise l (limits_after l archived)

-- the greatest of some numbers, or 0
abbrev pub greatest : List ℕ → ℕ
greatest [] = 0
greatest (n ∷ ns) = max n (greatest ns)

-- A queue that opens with a page allowed always allows a page more than the most lines that have been said to be archived.
abbrev pub PageIsAllowed : Type 0
PageIsAllowed =
    (room bound : ℕ) (archived : List ℕ)
    → (limits_after (limits room bound (page_of room)) archived).allowed ≡ greatest archived + page_of room
