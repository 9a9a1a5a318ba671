-- Runs of a queue and those who wait at it: whatever happens, in whatever order, the list is settled behind each event.
use Rattle.std.specs.Prelude.{◌≡◌, ◌≢◌, ℕ, ◌<◌, ◌≤◌, List, [], ◌∷◌, Bool, true, false, ◌==◌, if◌then◌else◌, min, length, Option, Some, None}
use Rattle.std.specs.List.{list_any, AllByRecursion}
use Rattle.wait_list.specs.declared.group.Group.TheVariants.{HearWatchers, Watchers, Everybody}
use Rattle.wait_list.specs.declared.waiter.Wants.{Wants}
use Rattle.wait_list.specs.declared.waiter.Wants.TheVariants.{Any, UpTo, Due, Alarm, Room, RoomUp}
use Rattle.wait_list.specs.declared.waiter.Waiter.{Waiter}
use Rattle.wait_list.specs.declared.stock.Stock.{Stock}
use Rattle.wait_list.specs.Waiters.{is_awake, OneSleeps, is_by, Change, changed}
use Rattle.wait_list.specs.Settled.{settled}

-- what happens under the lock: an item of a priority comes or goes, the queue is shut, its journal is full, or the list
-- changes
pub data Event : Type 0 where
  Comes : (priority : ℕ) → Event
  Goes : (priority : ℕ) → Event
  Shuts : Event
  Fills : Event
  Changes : (change : Change) → Event

-- a queue, by the priorities of its items, and those who wait at it
pub record World : Type 0 where
  pub items : List ℕ
  pub bound : ℕ
  pub is_shut : Bool
  pub is_spent : Bool
  pub waiters : List Waiter

-- a queue with no items, at which nobody waits
abbrev pub opening : ℕ → World
opening bound = record { items = []; bound = bound; is_shut = false; is_spent = false; waiters = [] }

-- the least of the priorities
abbrev pub least_with : ℕ → Option ℕ → Option ℕ
least_with x None = Some x
least_with x (Some y) = Some (min x y)

abbrev pub least : List ℕ → Option ℕ
least [] = None
least (x ∷ xs) = least_with x (least xs)

-- without one of this priority
abbrev pub without_one : ℕ → List ℕ → List ℕ
without_one p [] = []
without_one p (x ∷ xs) = if p == x then xs else x ∷ without_one p xs

-- what the queue has
abbrev pub stock_of : World → Stock
stock_of w = record { first = least w.items; items = length w.items; bound = w.bound; is_shut = w.is_shut; is_spent = w.is_spent }

-- the world after an event, but for the wakes
abbrev pub after : World → Event → World
after w (Comes p) = record w { items = p ∷ w.items }
after w (Goes p) = record w { items = without_one p w.items }
after w Shuts = record w { is_shut = true }
after w Fills = record w { is_spent = true }
after w (Changes change) = record w { waiters = changed change w.waiters }

-- the world once those are woken who are to be
abbrev pub settle : World → World
settle w = record w { waiters = settled (stock_of w) w.waiters }

abbrev pub happens : World → Event → World
happens w e = settle (after w e)

abbrev pub run : List Event → World → World
run [] w = w
run (e ∷ es) w = run es (happens w e)

-- whether one who wants this has nothing to wake up for: no item that it takes, or none that is due before a thread
-- or a timer looks for it, nor before a listener comes back by itself, and no room
abbrev pub HasNothing : World → Wants → Type 0
HasNothing w Any = w.items ≡ []
HasNothing w (UpTo bound seen) =
    AllByRecursion (λ p. bound < p) w.items × AllByRecursion (λ p. OneSleeps (HearWatchers p) w.waiters) w.items
HasNothing w (Due watch) = AllByRecursion (λ p. OneSleeps (Watchers p) w.waiters) w.items
HasNothing w (Alarm armed) = AllByRecursion (λ p. is_by p armed ≡ true) w.items
HasNothing w Room = (w.bound ≤ length w.items) × (w.is_shut ≡ false)
HasNothing w RoomUp = (w.bound ≤ length w.items) × (w.is_shut ≡ false)

-- and something may still come
pub record MaySleep (w : World) (wants : Wants) : Type 0 where
  pub has_nothing : HasNothing w wants
  pub goes_on : w.is_spent ≡ false
  pub is_open : w.is_shut ≡ true → w.items ≢ []

-- all who were woken have come back
abbrev pub AllAreBack : World → Type 0
AllAreBack w = list_any (is_awake Everybody) w.waiters ≡ false
