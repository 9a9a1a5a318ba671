-- Those who wait, in the order in which they came.
use Rattle.std.specs.Prelude.{◌≡◌, ℕ, ◌+◌, ◌<◌, List, [], ◌∷◌, ◌++◌, Bool, true, false, not, ◌&&◌, ◌==◌, if◌then◌else◌, nat_le, map}
use Rattle.std.specs.Prelude.{Option, Some, None}
use Rattle.std.specs.List.{list_any, AllByRecursion}
use Rattle.std.specs.Int.{bit_at}
use Rattle.wait_list.specs.declared.group.Group.{Group}
use Rattle.wait_list.specs.declared.group.Group.TheVariants.{Threads, Listeners, Hearers, HearWatchers, Dues, Watchers, LateAlarms, Producers, RoomListeners, Everybody}
use Rattle.wait_list.specs.declared.waiter.Wants.{Wants}
use Rattle.wait_list.specs.declared.waiter.Wants.TheVariants.{Any, UpTo, Due, Alarm, Room, RoomUp}
use Rattle.wait_list.specs.declared.waiter.Waiter.{Waiter}

-- whether it is a thread that takes any item
abbrev pub takes_any : Wants → Bool
takes_any Any = true
takes_any (UpTo bound seen) = false
takes_any (Due watch) = false
takes_any (Alarm armed) = false
takes_any Room = false
takes_any RoomUp = false

-- whether it is a listener that could take an item of this priority
abbrev pub listens : ℕ → Wants → Bool
listens first Any = false
listens first (UpTo bound seen) = nat_le first bound
listens first (Due watch) = false
listens first (Alarm armed) = false
listens first Room = false
listens first RoomUp = false

-- whether it takes what is due
abbrev pub takes_due : Wants → Bool
takes_due Any = false
takes_due (UpTo bound seen) = false
takes_due (Due watch) = true
takes_due (Alarm armed) = false
takes_due Room = false
takes_due RoomUp = false

-- whether this time comes by the time when that priority is due
abbrev pub is_by : ℕ → Option ℕ → Bool
is_by first None = false
is_by first (Some time) = nat_le time first

-- whether it is a listener that wants an item
abbrev pub hears : Wants → Bool
hears Any = false
hears (UpTo bound seen) = true
hears (Due watch) = false
hears (Alarm armed) = false
hears Room = false
hears RoomUp = false

-- whether it is one that saw a first item of this priority, or of an earlier one, when it came: it comes back by itself by then
abbrev pub hears_by_itself : ℕ → Wants → Bool
hears_by_itself first Any = false
hears_by_itself first (UpTo bound seen) = is_by first seen
hears_by_itself first (Due watch) = false
hears_by_itself first (Alarm armed) = false
hears_by_itself first Room = false
hears_by_itself first RoomUp = false

-- whether it takes what is due, and wakes up by itself by the time when this priority is due
abbrev pub watches : ℕ → Wants → Bool
watches first Any = false
watches first (UpTo bound seen) = false
watches first (Due watch) = is_by first watch
watches first (Alarm armed) = false
watches first Room = false
watches first RoomUp = false

-- whether it is an alarm that doesn't ring by the time when this priority is due
abbrev pub rings_late : ℕ → Wants → Bool
rings_late first Any = false
rings_late first (UpTo bound seen) = false
rings_late first (Due watch) = false
rings_late first (Alarm armed) = not (is_by first armed)
rings_late first Room = false
rings_late first RoomUp = false

-- whether it is a thread that wants room
abbrev pub is_producer : Wants → Bool
is_producer Any = false
is_producer (UpTo bound seen) = false
is_producer (Due watch) = false
is_producer (Alarm armed) = false
is_producer Room = true
is_producer RoomUp = false

-- whether it is a listener that wants room
abbrev pub listens_for_room : Wants → Bool
listens_for_room Any = false
listens_for_room (UpTo bound seen) = false
listens_for_room (Due watch) = false
listens_for_room (Alarm armed) = false
listens_for_room Room = false
listens_for_room RoomUp = true

-- whether one who wants this is in the group
abbrev pub is_in : Group → Wants → Bool
is_in Threads wants = takes_any wants
is_in (Listeners first) wants = listens first wants
is_in Hearers wants = hears wants
is_in (HearWatchers first) wants = hears_by_itself first wants
is_in Dues wants = takes_due wants
is_in (Watchers first) wants = watches first wants
is_in (LateAlarms first) wants = rings_late first wants
is_in Producers wants = is_producer wants
is_in RoomListeners wants = listens_for_room wants
is_in Everybody wants = true

-- whether it is of the group, and sleeps
abbrev pub is_asleep : Group → Waiter → Bool
is_asleep group w = not w.is_woken && is_in group w.wants

-- whether it is of the group, and was woken and has not come back
abbrev pub is_awake : Group → Waiter → Bool
is_awake group w = w.is_woken && is_in group w.wants

-- one of the group sleeps
abbrev pub OneSleeps : Group → List Waiter → Type 0
OneSleeps group ws = list_any (is_asleep group) ws ≡ true

-- one of the group was woken and has not come back
abbrev pub OneIsAwake : Group → List Waiter → Type 0
OneIsAwake group ws = list_any (is_awake group) ws ≡ true

-- whether one of the group is in the list, asleep or awake
abbrev pub has : Group → List Waiter → Bool
has group ws = list_any (λ w. is_in group w.wants) ws

-- how many of the group were woken and have not come back
abbrev pub count_awake : Group → List Waiter → ℕ
count_awake group [] = 0
count_awake group (w ∷ ws) = (if is_awake group w then 1 else 0) + count_awake group ws

-- their numbers
abbrev pub numbers : List Waiter → List ℕ
numbers ws = map (λ w. w.number) ws

-- whether one of them has this number
abbrev pub has_number : ℕ → List Waiter → Bool
has_number number ws = list_any (λ n. number == n) (numbers ws)

-- whether one of them has this number and was woken
abbrev pub is_woken_at : ℕ → List Waiter → Bool
is_woken_at number ws = list_any (λ w. w.is_woken && number == w.number) ws

-- no number is there twice
abbrev pub AreApart : List ℕ → Type 0
AreApart [] = Unit {0}
AreApart (n ∷ ns) = (list_any (λ m. n == m) ns ≡ false) × AreApart ns

-- each has a number of its own, below 64
pub record AreWaiters (ws : List Waiter) : Type 0 where
  pub below : AllByRecursion (λ number. number < 64) (numbers ws)
  pub apart : AreApart (numbers ws)

-- without the one of this number
abbrev pub without : ℕ → List Waiter → List Waiter
without number [] = []
without number (w ∷ ws) = if number == w.number then ws else w ∷ without number ws

-- without those whose bit is set in the mask
abbrev pub without_all : ℕ → List Waiter → List Waiter
without_all mask [] = []
without_all mask (w ∷ ws) = if bit_at mask w.number == 1 then without_all mask ws else w ∷ without_all mask ws

-- one with this number who wants this, and sleeps
abbrev pub asleep : ℕ → Wants → Waiter
asleep number wants = record { number = number; wants = wants; is_woken = false }

-- the same one, woken
abbrev pub woken : Waiter → Waiter
woken w = record { number = w.number; wants = w.wants; is_woken = true }

-- what happens to the list itself: one with a number waits; one comes back or gives up; or those of a mask do
pub data Change : Type 0 where
  Waits : (number : ℕ) (wants : Wants) → Change
  Leaves : (number : ℕ) → Change
  AllLeave : (mask : ℕ) → Change

-- the list afterwards: who waits comes behind all others
abbrev pub changed : Change → List Waiter → List Waiter
changed (Waits number wants) ws = ws ++ asleep number wants ∷ []
changed (Leaves number) ws = without number ws
changed (AllLeave mask) ws = without_all mask ws
