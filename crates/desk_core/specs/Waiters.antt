-- Who waits at the Book. In each run the list has whom the leaders' changes put in and did not take out, in that order; and
-- whenever the lock is free nobody in it sleeps beside what it could take, unless one that could was woken and has not come back.
use Rattle.std.specs.Prelude.{◌≡◌, ℕ, ◌≤◌, true, false, List, [], ◌∷◌, ◌++◌, Some}
use Rattle.pq_types.specs.declared.journal.TheConstants.{GREATEST_NUMBER}
use Rattle.pq_types.specs.History.{Limits}
use Rattle.wait_list.specs.declared.waiter.Waiter.{Waiter}
use Rattle.wait_list.specs.Waiters.{Change, changed}
use Rattle.wait_list.specs.Settled.{OnlyWakes}
use Rattle.pq_book.specs.Book.{Volume}
use Rattle.pq_book.specs.Stock.{IsSettledBook}
use Rattle.desk_core.specs.Desk.{Desk, Has, dealer_opening}
use Rattle.desk_core.specs.Steps.{Event, Changes, Step}
use Rattle.desk_core.specs.Rule.{MeetsRule}
use Rattle.desk_core.specs.Dealing.{Move, Takes, Happens, DealtRun}
use Rattle.desk_core.specs.declared.model.PenState.{PenState}

-- the changes that a step makes to the list
abbrev pub changes_in : (d : Desk) (e : Event) (d' : Desk) → Step d e d' → List Change
changes_in d (Changes seat change) d' step = change ∷ []
changes_in d e d' step = []

-- the same of a move
abbrev pub changes_by : (d : Desk) (x : Move) (d' : Desk) → Happens d x d' → List Change
changes_by d (Takes event) d' step = changes_in d event d' step
changes_by d x d' move = []

-- and of a run, in its order
abbrev pub changes_of : (d : Desk) (moves : List Move) (d' : Desk) → DealtRun d moves d' → List Change
changes_of d [] d' run = []
changes_of d (x ∷ xs) d' run = changes_by d x run.0 run.1 ++ changes_of run.0 xs d' run.2

-- a list after these changes, with no wakes
abbrev pub changed_by : List Waiter → List Change → List Waiter
changed_by ws [] = ws
changed_by ws (c ∷ cs) = changed_by (changed c ws) cs

-- These wait at the Book, at home or in the hand of the pen that leads, and some of them may be awake. At home it has woken whom it
-- is to wake.
pub record HasWaiters (d : Desk) (ws : List Waiter) : Type 0 where
  pub home : (book : Volume) → d.home ≡ Some book → OnlyWakes ws book.waiters × IsSettledBook book
  pub hand : (i : ℕ) (p : PenState) → Has d.views i p → p.leading ≡ true → OnlyWakes ws p.waiters

-- so it is after each move, where it was so before
abbrev pub MovesKeepWaiters : Type 0
MovesKeepWaiters =
    (d d' : Desk) (x : Move) (ws : List Waiter) → MeetsRule d → HasWaiters d ws → (move : Happens d x d')
    → HasWaiters d' (changed_by ws (changes_by d x d' move))

-- and at the end of every run: nobody is lost, and nobody joins but by a change
abbrev pub EveryRunHasWaiters : Type 0
EveryRunHasWaiters =
    (places : ℕ) (l : Limits) (moves : List Move) (d : Desk) → l.room ≤ GREATEST_NUMBER
    → (run : DealtRun (dealer_opening places l) moves d)
    → HasWaiters d (changed_by [] (changes_of (dealer_opening places l) moves d run))

-- At the end of every run, where the lock is free, the Book is at home, and no thread sleeps beside an item that it could take,
-- unless one that could was woken and has not come back; and likewise of listeners, timers, alarms and producers.
abbrev pub NobodySleepsBesideAnItem : Type 0
NobodySleepsBesideAnItem =
    (places : ℕ) (l : Limits) (moves : List Move) (d : Desk) → l.room ≤ GREATEST_NUMBER
    → DealtRun (dealer_opening places l) moves d → d.held ≡ false
    → (book : Volume) × (d.home ≡ Some book) × IsSettledBook book
