-- What holds of a running desk between any two atomic steps, of whatever threads.
use Rattle.std.specs.Prelude.{◌≡◌, ℕ, ◌≤◌, Bool, List, [], slice_set}
use Rattle.atomic_table.specs.Table.{State}
use Rattle.pq_types.specs.Asked.{Line}
use Rattle.announce_board.specs.declared.terms.Terms.{Terms}
use Rattle.announce_board.specs.Slots.{Slotted, first_limits}
use Rattle.desk_core.specs.Archiving.{HasLimits, archived_of, limits_after}
use Rattle.desk_core.specs.Waiters.{HasWaiters, changes_of, changed_by}
use Rattle.desk_core.specs.Clauses.{LockClause}
use Rattle.desk_core.specs.Dealing.{Move, DealtRun, dealt_history}
use Rattle.desk_core.specs.Desk.{Desk, Has, acts_number, dealer_opening}
use Rattle.desk_core.specs.Layout.{AreWords}
use Rattle.desk_core.specs.Linearizable.{Linearizes}
use Rattle.desk_core.specs.Looking.{LinearizesLooks, dealt_sights}
use Rattle.desk_core.specs.Positions.{KeepsTheNext}
use Rattle.desk_core.specs.Times.{IsWhole, AreTimed, CallsFollowTime}
use Rattle.desk_core.specs.declared.model.PenState.{PenState}
use Rattle.desk_core.specs.declared.model.View.{View}
use Rattle.desk_core.specs.declared.model.View.TheVariants.{Holder}
use Rattle.announce_board.specs.Rule.{Keeps, book_at_home}

-- The table stands as a desk: its words are those of the desk's lock, controls and items, its slot has the Book that is at
-- home there, and its seats know what the desk's do. This desk is at the end of a run of the machine from its opening with a
-- dealer. The journal, that of the Book at home or in the leader's hand, linearizes what the callers have seen of that run.
-- The positions that the pens keep are those of their acts in this history; each of its positions is some pen's, and it has
-- no other act of a pen than those. So of the calls that any two pens have read, of which one ended before the other began, it
-- has the earlier line. The looks of that run have their places in the same order. The Book, at home or in the leader's hand,
-- has the desk's bound, and allows as many lines as the terms do, or a page more than the most that were said in that run to be
-- archived, where that is more. It has exactly the waiters that were put in in that run and not taken out; where it is at home,
-- nobody sleeps beside what it could take, unless one that could was woken and has not come back.
pub record IsLinearized (wide : Bool) (room : ℕ) (terms : Terms) (places : ℕ) (s : State Slotted View) : Type 0 where
  pub desk : Desk
  pub words : AreWords wide places s.words desk.held desk.control desk.item
  pub home : desk.home ≡ book_at_home s.homes
  pub views : desk.views ≡ s.views
  pub moves : List Move
  pub run : DealtRun (dealer_opening places (first_limits room terms)) moves desk
  pub journal : List Line
  pub lock : LockClause desk journal
  pub linearizes : Linearizes room (dealt_history (dealer_opening places (first_limits room terms)) moves desk run) journal
  pub looks : LinearizesLooks room (dealt_sights (dealer_opening places (first_limits room terms)) moves desk run) journal
  pub timed : AreTimed s.views (dealt_history (dealer_opening places (first_limits room terms)) moves desk run)
  pub whole : (i : ℕ) (p : PenState) → Has s.views i p
      → IsWhole (dealt_history (dealer_opening places (first_limits room terms)) moves desk run) (acts_number s.views) p
  pub follow : CallsFollowTime desk
  pub limited : HasLimits desk
      (limits_after (first_limits room terms) (archived_of (dealer_opening places (first_limits room terms)) moves desk run))
  pub waited : HasWaiters desk (changed_by [] (changes_of (dealer_opening places (first_limits room terms)) moves desk run))

-- so it is of every table that keeps the rule of desks
abbrev pub TablesAreLinearized : Bool → (ℕ → Type 0) → Type 0
TablesAreLinearized wide roomy =
    (room : ℕ) (terms : Terms) (places : ℕ) (s : State Slotted View) → Keeps wide roomy room terms places s → IsLinearized wide room terms places s

-- Where a table has gone from one state to another, both of which keep the rule, and of its seats this pen's alone has changed,
-- to one that keeps no fewer acts, what the pen keeps more are the positions from the next one on. Each step of a table changes
-- the seat that takes it alone.
abbrev pub TablesForcePositions : Bool → (ℕ → Type 0) → Type 0
TablesForcePositions wide roomy =
    (room : ℕ) (terms : Terms) (places : ℕ) (s s' : State Slotted View) (seat : ℕ) (p w : PenState)
    → Keeps wide roomy room terms places s → Keeps wide roomy room terms places s'
    → Has s.views seat p → s'.views ≡ slice_set s.views seat (Holder w) → acts_number s.views ≤ acts_number s'.views
    → KeepsTheNext (acts_number s.views) (acts_number s'.views) p w
