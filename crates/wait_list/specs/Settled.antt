-- Whom a queue wakes, by what it has.
use Rattle.std.specs.Prelude.{◌≡◌, ℕ, zero, suc, ◌+◌, ◌<◌, ◌≤◌, ◌-◌, List, [], ◌∷◌, ◌++◌, Bool, true, false, ◌⊎◌, if◌then◌else◌, nat_lt, ◌&&◌, ◌||◌, is_none, map, Option, Some, None}
use Rattle.std.specs.List.{list_any}
use Rattle.wait_list.specs.declared.group.Group.{Group}
use Rattle.wait_list.specs.declared.group.Group.TheVariants.{Threads, Listeners, Hearers, HearWatchers, Dues, Watchers, LateAlarms, Producers, RoomListeners, Everybody}
use Rattle.wait_list.specs.declared.waiter.Waiter.{Waiter}
use Rattle.wait_list.specs.declared.stock.Stock.{Stock}
use Rattle.wait_list.specs.Waiters.{is_asleep, is_awake, has, count_awake, OneSleeps, OneIsAwake, woken}

-- What holds whenever the lock is free: nobody sleeps who could go on, unless one that could was woken and has not come back.
pub record IsSettled (stock : Stock) (ws : List Waiter) : Type 0 where
  -- a thread sleeps beside an item only where a thread was woken: no listener stands for it
  pub threads : (first : ℕ) → stock.first ≡ Some first → OneSleeps Threads ws → OneIsAwake Threads ws
  -- a listener that could take the first item sleeps only where a thread is in the list, or as many such listeners were woken
  -- as there are items
  pub listeners :
      (first : ℕ) → stock.first ≡ Some first → has Threads ws ≡ false → OneSleeps (Listeners first) ws
      → stock.items ≤ count_awake (Listeners first) ws
  -- where no thread is in the list, a listener sleeps beside a first item only where a listener was woken, or one that sleeps
  -- comes back by itself by the time when that item is due
  pub heard :
      (first : ℕ) → stock.first ≡ Some first → has Threads ws ≡ false → OneSleeps Hearers ws
      → OneIsAwake Hearers ws ⊎ OneSleeps (HearWatchers first) ws
  -- where nobody was woken who takes the first item when it is due, one of those who take what is due watches for it
  pub watched :
      (first : ℕ) → stock.first ≡ Some first → OneSleeps Dues ws
      → OneIsAwake Threads ws ⊎ OneIsAwake Dues ws ⊎ OneSleeps (Watchers first) ws
  -- no alarm rings too late
  pub alarms : (first : ℕ) → stock.first ≡ Some first → ¬ OneSleeps (LateAlarms first) ws
  -- a producer sleeps beside room only where one was woken
  pub room : stock.items < stock.bound → OneSleeps Producers ws → OneIsAwake Producers ws
  -- a listener for room sleeps beside room only where a producer is in the list, or as many such listeners were woken as there
  -- is room for
  pub room_listeners :
      stock.items < stock.bound → has Producers ws ≡ false → OneSleeps RoomListeners ws
      → stock.bound ≤ stock.items + count_awake RoomListeners ws
  -- nobody waits for what never comes
  pub shut : stock.is_shut ≡ true → ¬ OneSleeps Producers ws
  -- at a shut queue no listener for room sleeps
  pub shut_listeners : stock.is_shut ≡ true → ¬ OneSleeps RoomListeners ws
  pub over : stock.is_shut ≡ true → stock.first ≡ None → ¬ OneSleeps Everybody ws
  pub spent : stock.is_spent ≡ true → ¬ OneSleeps Everybody ws

-- the first so many of the group who sleep are woken, or all where fewer do
abbrev pub woken_first : ℕ → Group → List Waiter → List Waiter
woken_first n group [] = []
woken_first zero group (w ∷ ws) = w ∷ ws
woken_first (suc n) group (w ∷ ws) = if is_asleep group w then woken w ∷ woken_first n group ws else w ∷ woken_first (suc n) group ws

-- so many of the group are awake, those who came first, or all where there are fewer
abbrev pub enough_awake : ℕ → Group → List Waiter → List Waiter
enough_awake n group ws = woken_first (n - count_awake group ws) group ws

-- a waiter of the group, woken; any other as it is
abbrev pub awake_if_in : Group → Waiter → Waiter
awake_if_in group w = if is_asleep group w then woken w else w

-- each of the group who sleeps is woken
abbrev pub all_awake : Group → List Waiter → List Waiter
all_awake group ws = map (awake_if_in group) ws

-- whether an item of this priority is taken when it is due, by a thread that was woken or by one that watches for it
abbrev pub is_watched : ℕ → List Waiter → Bool
is_watched first ws = list_any (is_awake Threads) ws || list_any (is_asleep (Watchers first)) ws

-- so it is, or one of those who take what is due is awake
abbrev pub watched_by_one : ℕ → List Waiter → List Waiter
watched_by_one first ws = if is_watched first ws then ws else enough_awake 1 Dues ws

-- a listener that sleeps comes back by itself by the time when an item of this priority is due, or one is awake
abbrev pub heard_by_one : ℕ → List Waiter → List Waiter
heard_by_one first ws = if list_any (is_asleep (HearWatchers first)) ws then ws else enough_awake 1 Hearers ws

-- where no thread is in the list, a listener is awake for each item, and one hears of the first
abbrev pub listened_to : ℕ → ℕ → List Waiter → List Waiter
listened_to items first ws = if has Threads ws then ws else heard_by_one first (enough_awake items (Listeners first) ws)

-- a thread is awake for the first item
abbrev pub threads_settled : ℕ → List Waiter → List Waiter
threads_settled first ws = enough_awake 1 Threads (all_awake (LateAlarms first) ws)

-- for so many items, where there is a first one
abbrev pub settled_for_items : ℕ → Option ℕ → List Waiter → List Waiter
settled_for_items items (Some first) ws = listened_to items first (watched_by_one first (threads_settled first ws))
settled_for_items items None ws = ws

-- where no producer is in the list, a listener for room is awake for each item that there is room for
abbrev pub room_listened_to : ℕ → List Waiter → List Waiter
room_listened_to room ws = if has Producers ws then ws else enough_awake room RoomListeners ws

-- for room
abbrev pub settled_for_room : Stock → List Waiter → List Waiter
settled_for_room stock ws =
    if stock.is_shut then all_awake RoomListeners (all_awake Producers ws)
    else if nat_lt stock.items stock.bound then room_listened_to (stock.bound - stock.items) (enough_awake 1 Producers ws)
    else ws

-- whether nothing comes any more for which anybody could wait
abbrev pub is_over : Stock → Bool
is_over stock = stock.is_spent || (stock.is_shut && is_none stock.first)

-- the waiters once the queue has woken whom it is to wake
abbrev pub settled : Stock → List Waiter → List Waiter
settled stock ws =
    if is_over stock then all_awake Everybody ws
    else settled_for_room stock (settled_for_items stock.items stock.first ws)

-- the same waiter, who may have been woken
abbrev pub IsSameOrWoken : Waiter → Waiter → Type 0
IsSameOrWoken v w = (w ≡ v) ⊎ (w ≡ woken v)

-- the same waiters, of whom more may be awake
abbrev pub OnlyWakes : List Waiter → List Waiter → Type 0
OnlyWakes [] [] = Unit {0}
OnlyWakes (v ∷ vs) (w ∷ ws) = IsSameOrWoken v w × OnlyWakes vs ws
OnlyWakes [] (w ∷ ws) = ⊥
OnlyWakes (v ∷ vs) [] = ⊥

-- those of the group who were woken came before all others of it who slept
pub record WakesTheFirst (group : Group) (old new : List Waiter) : Type 0 where
  pub before : List Waiter
  pub behind : List Waiter
  pub old_is : old ≡ before ++ behind
  pub new_is : new ≡ all_awake group before ++ behind
