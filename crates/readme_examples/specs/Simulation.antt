-- What a contract sees of a simulation.
use Rattle.std.specs.Prelude.{ℕ, ◌≤◌, List, [], ◌∷◌, ◌++◌, Option, Some, None}
use Rattle.std.specs.List.{AllByRecursion}
use Rattle.pq_types.specs.Item.{Item}
use Rattle.pq_types.specs.Queue.{IsAscending}
use Rattle.leftist_heap.specs.Store.{rest_of}

-- the events that are still to happen, first those that come first; those that have happened, in
-- their order; and the clock
pub record Course : Type 0 where
  pub pending : List Item
  pub happened : List Item
  pub clock : ℕ

-- the times of what has happened ascend up to the clock, and nothing is still to happen before it
pub record IsInTime (happened : List Item) (clock : ℕ) (pending : List Item) : Type 0 where
  pub ascending : IsAscending happened
  pub past : AllByRecursion (λ event. event.priority ≤ clock) happened
  pub future : AllByRecursion (λ event. clock ≤ event.priority) pending

-- the course after its first pending event, if there is one, has happened
abbrev pub came_about : Option Item → Course → Course
came_about None course = course
came_about (Some event) course =
    record { pending = rest_of course.pending; happened = course.happened ++ event ∷ []; clock = event.priority }
