-- The kind of each group, and which kinds each step of settling leaves as they are.
use Rattle.std.proofs.Common.{◌≡◌, ℕ, ◌-◌, List, true, false, ◌==◌, cond, Option, Some, None, nat_lt, refl, sym, subst}
use Rattle.std.specs.List.{list_any}
use Rattle.wait_list.specs.declared.group.Group.{Group}
use Rattle.wait_list.specs.declared.group.Group.TheVariants.{Threads, Listeners, Hearers, HearWatchers, Dues, Watchers, LateAlarms, Producers, RoomListeners}
use Rattle.wait_list.specs.declared.waiter.Wants.{Wants}
use Rattle.wait_list.specs.declared.waiter.Wants.TheVariants.{Any, UpTo, Due, Alarm, Room, RoomUp}
use Rattle.wait_list.specs.declared.waiter.Waiter.{Waiter}
use Rattle.wait_list.specs.declared.stock.Stock.{Stock}
use Rattle.wait_list.specs.Waiters.{is_in, is_asleep, is_awake, has, takes_any, listens, hears, takes_due, rings_late, is_producer, listens_for_room}
use Rattle.wait_list.specs.Settled.{enough_awake, all_awake, is_watched, watched_by_one, heard_by_one, listened_to, room_listened_to, settled_for_items, settled_for_room}
use Rattle.wait_list.proofs.OnlyWakings.{both}
use Rattle.wait_list.proofs.Settling.{watcher_is_due, watcher_hears}
use Rattle.wait_list.proofs.Fewest.{kind_of, kind, SameOn, Apart, Within, same_refl, same_trans, same_enough, same_all_awake}

-- The kind of each group.
threads_kind : (x : Wants) → takes_any x ≡ true → kind_of x ≡ 0
threads_kind Any h = refl
threads_kind (UpTo b s) h = absurd cc
threads_kind (Due w) h = absurd cc
threads_kind (Alarm a) h = absurd cc
threads_kind Room h = absurd cc
threads_kind RoomUp h = absurd cc

listeners_kind : (p : ℕ) (x : Wants) → listens p x ≡ true → kind_of x ≡ 4
listeners_kind p Any h = absurd cc
listeners_kind p (UpTo b s) h = refl
listeners_kind p (Due w) h = absurd cc
listeners_kind p (Alarm a) h = absurd cc
listeners_kind p Room h = absurd cc
listeners_kind p RoomUp h = absurd cc

dues_kind : (x : Wants) → takes_due x ≡ true → kind_of x ≡ 1
dues_kind Any h = absurd cc
dues_kind (UpTo b s) h = absurd cc
dues_kind (Due w) h = refl
dues_kind (Alarm a) h = absurd cc
dues_kind Room h = absurd cc
dues_kind RoomUp h = absurd cc

alarms_kind : (p : ℕ) (x : Wants) → rings_late p x ≡ true → kind_of x ≡ 2
alarms_kind p Any h = absurd cc
alarms_kind p (UpTo b s) h = absurd cc
alarms_kind p (Due w) h = absurd cc
alarms_kind p (Alarm a) h = refl
alarms_kind p Room h = absurd cc
alarms_kind p RoomUp h = absurd cc

producers_kind : (x : Wants) → is_producer x ≡ true → kind_of x ≡ 3
producers_kind Any h = absurd cc
producers_kind (UpTo b s) h = absurd cc
producers_kind (Due w) h = absurd cc
producers_kind (Alarm a) h = absurd cc
producers_kind Room h = refl
producers_kind RoomUp h = absurd cc

hearers_kind : (x : Wants) → hears x ≡ true → kind_of x ≡ 4
hearers_kind Any h = absurd cc
hearers_kind (UpTo b s) h = refl
hearers_kind (Due w) h = absurd cc
hearers_kind (Alarm a) h = absurd cc
hearers_kind Room h = absurd cc
hearers_kind RoomUp h = absurd cc

room_listeners_kind : (x : Wants) → listens_for_room x ≡ true → kind_of x ≡ 5
room_listeners_kind Any h = absurd cc
room_listeners_kind (UpTo b s) h = absurd cc
room_listeners_kind (Due w) h = absurd cc
room_listeners_kind (Alarm a) h = absurd cc
room_listeners_kind Room h = absurd cc
room_listeners_kind RoomUp h = refl

-- a listener hears
listener_hears : (p : ℕ) (x : Wants) → listens p x ≡ true → hears x ≡ true
listener_hears p Any h = absurd cc
listener_hears p (UpTo b s) h = refl
listener_hears p (Due w) h = absurd cc
listener_hears p (Alarm a) h = absurd cc
listener_hears p Room h = absurd cc
listener_hears p RoomUp h = absurd cc

pub awake_listener : (p : ℕ) (w : Waiter) → is_awake (Listeners p) w ≡ true → is_awake Hearers w ≡ true
awake_listener p w h =
    let parts = both w.is_woken (listens p w.wants) h in
    let one : hears w.wants ≡ true = listener_hears p w.wants parts.1 in
    rw (parts.0, one) refl

-- a group is within its kind, and apart from each other
abbrev IsKind : Group → ℕ → Type 0
IsKind g k = (x : Wants) → is_in g x ≡ true → kind_of x ≡ k

within : (g : Group) (k : ℕ) → IsKind g k → (k == k) ≡ true → Within g (kind k)
within g k f e x h = subst (λ (n : ℕ). (n == k) ≡ true) (sym (f x h)) e

apart : (g : Group) (k j : ℕ) → IsKind g k → (k == j) ≡ false → Apart g (kind j)
apart g k j f e x h = subst (λ (n : ℕ). (n == j) ≡ false) (sym (f x h)) e

-- Of each kind.
pub threads_within : Within Threads (kind 0)
threads_within = within Threads 0 threads_kind refl

pub listeners_within : (p : ℕ) → Within (Listeners p) (kind 4)
listeners_within p = within (Listeners p) 4 (listeners_kind p) refl

pub hearers_within : Within Hearers (kind 4)
hearers_within = within Hearers 4 hearers_kind refl

pub hear_watchers_within : (p : ℕ) → Within (HearWatchers p) (kind 4)
hear_watchers_within p x h = hearers_within x (watcher_hears p x h)

pub room_listeners_within : Within RoomListeners (kind 5)
room_listeners_within = within RoomListeners 5 room_listeners_kind refl

pub dues_within : Within Dues (kind 1)
dues_within = within Dues 1 dues_kind refl

pub watchers_within : (p : ℕ) → Within (Watchers p) (kind 1)
watchers_within p x h = dues_within x (watcher_is_due p x h)

pub producers_within : Within Producers (kind 3)
producers_within = within Producers 3 producers_kind refl

-- Each step changes one kind alone.
pub same_alarms : (p k : ℕ) → (2 == k) ≡ false → (ws : List Waiter) → SameOn (kind k) ws (all_awake (LateAlarms p) ws)
same_alarms p k e ws = same_all_awake (LateAlarms p) (kind k) (apart (LateAlarms p) 2 k (alarms_kind p) e) ws

pub same_threads : (k : ℕ) → (0 == k) ≡ false → (ws : List Waiter) → SameOn (kind k) ws (enough_awake 1 Threads ws)
same_threads k e ws = same_enough 1 Threads (kind k) (apart Threads 0 k threads_kind e) ws

pub same_watched : (p k : ℕ) → (1 == k) ≡ false → (ws : List Waiter) → SameOn (kind k) ws (watched_by_one p ws)
same_watched p k e ws =
    elim (is_watched p ws) as (λ b. SameOn (kind k) ws (cond b ws (enough_awake 1 Dues ws))) [
      | true ↦ same_refl (kind k) ws
      | false ↦ same_enough 1 Dues (kind k) (apart Dues 1 k dues_kind e) ws
    ]

same_heard : (p k : ℕ) → (4 == k) ≡ false → (ws : List Waiter) → SameOn (kind k) ws (heard_by_one p ws)
same_heard p k e ws =
    elim (list_any (is_asleep (HearWatchers p)) ws) as (λ b. SameOn (kind k) ws (cond b ws (enough_awake 1 Hearers ws))) [
      | true ↦ same_refl (kind k) ws
      | false ↦ same_enough 1 Hearers (kind k) (apart Hearers 4 k hearers_kind e) ws
    ]

pub same_listened : (items p k : ℕ) → (4 == k) ≡ false → (ws : List Waiter) → SameOn (kind k) ws (listened_to items p ws)
same_listened items p k e ws =
    let a = enough_awake items (Listeners p) ws in
    elim (has Threads ws) as (λ b. SameOn (kind k) ws (cond b ws (heard_by_one p a))) [
      | true ↦ same_refl (kind k) ws
      | false ↦
          same_trans (kind k) ws a (heard_by_one p a)
          (same_enough items (Listeners p) (kind k) (apart (Listeners p) 4 k (listeners_kind p) e) ws) (same_heard p k e a)
    ]

pub same_producers : (k : ℕ) → (3 == k) ≡ false → (ws : List Waiter) → SameOn (kind k) ws (enough_awake 1 Producers ws)
same_producers k e ws = same_enough 1 Producers (kind k) (apart Producers 3 k producers_kind e) ws

pub same_all_producers : (k : ℕ) → (3 == k) ≡ false → (ws : List Waiter) → SameOn (kind k) ws (all_awake Producers ws)
same_all_producers k e ws = same_all_awake Producers (kind k) (apart Producers 3 k producers_kind e) ws

pub same_room_listened : (room k : ℕ) → (5 == k) ≡ false → (ws : List Waiter) → SameOn (kind k) ws (room_listened_to room ws)
same_room_listened room k e ws =
    elim (has Producers ws) as (λ b. SameOn (kind k) ws (cond b ws (enough_awake room RoomListeners ws))) [
      | true ↦ same_refl (kind k) ws
      | false ↦ same_enough room RoomListeners (kind k) (apart RoomListeners 5 k room_listeners_kind e) ws
    ]

pub same_all_room_listeners : (k : ℕ) → (5 == k) ≡ false → (ws : List Waiter) → SameOn (kind k) ws (all_awake RoomListeners ws)
same_all_room_listeners k e ws = same_all_awake RoomListeners (kind k) (apart RoomListeners 5 k room_listeners_kind e) ws

same_for_room : (room k : ℕ) → (3 == k) ≡ false → (5 == k) ≡ false → (ws : List Waiter)
    → SameOn (kind k) ws (room_listened_to room (enough_awake 1 Producers ws))
same_for_room room k e f ws =
    let a = enough_awake 1 Producers ws in same_trans (kind k) ws a (room_listened_to room a) (same_producers k e ws) (same_room_listened room k f a)

same_shut : (k : ℕ) → (3 == k) ≡ false → (5 == k) ≡ false → (ws : List Waiter) → SameOn (kind k) ws (all_awake RoomListeners (all_awake Producers ws))
same_shut k e f ws =
    let a = all_awake Producers ws in same_trans (kind k) ws a (all_awake RoomListeners a) (same_all_producers k e ws) (same_all_room_listeners k f a)

pub same_room : (stock : Stock) (k : ℕ) → (3 == k) ≡ false → (5 == k) ≡ false → (ws : List Waiter) → SameOn (kind k) ws (settled_for_room stock ws)
same_room stock k e f ws =
    let room = stock.bound - stock.items in
    let after = room_listened_to room (enough_awake 1 Producers ws) in
    elim stock.is_shut as (λ b. SameOn (kind k) ws (cond b (all_awake RoomListeners (all_awake Producers ws)) (cond (nat_lt stock.items stock.bound) after ws))) [
      | true ↦ same_shut k e f ws
      | false ↦ elim (nat_lt stock.items stock.bound) as (λ b. SameOn (kind k) ws (cond b after ws)) [
        | true ↦ same_for_room room k e f ws
        | false ↦ same_refl (kind k) ws
      ]
    ]

pub same_after_threads : (items p k : ℕ) → (1 == k) ≡ false → (4 == k) ≡ false → (ws : List Waiter) → SameOn (kind k) ws (listened_to items p (watched_by_one p ws))
same_after_threads items p k e f ws =
    let b = watched_by_one p ws in same_trans (kind k) ws b (listened_to items p b) (same_watched p k e ws) (same_listened items p k f b)

-- a kind of those who want room, which no item wakes
pub record IsOfRoom (k : ℕ) : Type 0 where
  pub no_thread : (0 == k) ≡ false
  pub no_due : (1 == k) ≡ false
  pub no_alarm : (2 == k) ≡ false
  pub no_listener : (4 == k) ≡ false

pub of_room_3 : IsOfRoom 3
of_room_3 = record { no_thread = refl; no_due = refl; no_alarm = refl; no_listener = refl }

pub of_room_5 : IsOfRoom 5
of_room_5 = record { no_thread = refl; no_due = refl; no_alarm = refl; no_listener = refl }

pub same_items : (k items : ℕ) (o : Option ℕ) (ws : List Waiter) → IsOfRoom k → SameOn (kind k) ws (settled_for_items items o ws)
same_items k items None ws r = same_refl (kind k) ws
same_items k items (Some p) ws r =
    let a = all_awake (LateAlarms p) ws in
    let b = enough_awake 1 Threads a in
    let c = listened_to items p (watched_by_one p b) in
    same_trans (kind k) ws a c (same_alarms p k r.no_alarm ws)
    (same_trans (kind k) a b c (same_threads k r.no_thread a) (same_after_threads items p k r.no_due r.no_listener b))
