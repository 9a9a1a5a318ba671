-- What a queue has settled is settled.
use Rattle.std.proofs.Common.{◌≡◌, ℕ, ◌-◌, ◌<◌, ◌≤◌, List, Bool, true, false, not, ◌&&◌, cond, Option, Some, is_none, nat_lt, ◌⊎◌, inl, inr, refl, sym, ◌∙◌, ap, subst, arith, length, take, drop, ◌++◌}
use Rattle.std.specs.List.{list_any, refill}
use Rattle.std.proofs.Math.Seq.{take-append_seam}
use Rattle.std.proofs.lemmas.Bool.Decides.{nat_tests}
use Rattle.wait_list.specs.declared.group.Group.{Group}
use Rattle.wait_list.specs.declared.group.Group.TheVariants.{Threads, Listeners, Hearers, HearWatchers, Dues, Watchers, LateAlarms, Producers, RoomListeners, Everybody}
use Rattle.wait_list.specs.declared.waiter.Wants.{Wants}
use Rattle.wait_list.specs.declared.waiter.Wants.TheVariants.{Any, UpTo, Due, Alarm, Room, RoomUp}
use Rattle.wait_list.specs.declared.waiter.Waiter.{Waiter}
use Rattle.wait_list.specs.declared.stock.Stock.{Stock}
use Rattle.wait_list.specs.Waiters.{is_in, is_asleep, is_awake, OneSleeps, OneIsAwake, has, count_awake, takes_due, watches, hears, hears_by_itself}
use Rattle.wait_list.specs.Settled.{enough_awake, all_awake, is_watched, watched_by_one, heard_by_one, listened_to, room_listened_to, settled_for_items, settled_for_room, is_over, settled, OnlyWakes, IsSettled}
use Rattle.wait_list.proofs.FirstOnes.{neither}
use Rattle.wait_list.proofs.Numbers.{length_numbers}
use Rattle.wait_list.proofs.OnlyWakings.{both, either, only_settled, same_numbers, only_enough, only_all, only_watched, only_heard, only_listened, only_room_listened, only_room, only_trans, one_awake_stays, one_slept, one_sleeps_or_is_awake, awake_in_larger, asleep_in_larger, all_awake_none, enough_are_awake, one_is_awake, count_grows, has_same}

-- one who watches takes what is due
pub watcher_is_due : (p : ℕ) (wants : Wants) → watches p wants ≡ true → takes_due wants ≡ true
watcher_is_due p Any h = h
watcher_is_due p (UpTo b s) h = h
watcher_is_due p (Due w) h = refl
watcher_is_due p (Alarm a) h = h
watcher_is_due p Room h = h
watcher_is_due p RoomUp h = h

pub awake_watcher : (p : ℕ) (w : Waiter) → is_awake (Watchers p) w ≡ true → is_awake Dues w ≡ true
awake_watcher p w h =
    let parts = both w.is_woken (watches p w.wants) h in
    let due : takes_due w.wants ≡ true = watcher_is_due p w.wants parts.1 in
    rw (parts.0, due) refl

-- one who comes back by itself hears
pub watcher_hears : (p : ℕ) (wants : Wants) → hears_by_itself p wants ≡ true → hears wants ≡ true
watcher_hears p Any h = h
watcher_hears p (UpTo b s) h = refl
watcher_hears p (Due w) h = h
watcher_hears p (Alarm a) h = h
watcher_hears p Room h = h
watcher_hears p RoomUp h = h

pub awake_hear_watcher : (p : ℕ) (w : Waiter) → is_awake (HearWatchers p) w ≡ true → is_awake Hearers w ≡ true
awake_hear_watcher p w h =
    let parts = both w.is_woken (hears_by_itself p w.wants) h in
    let one : hears w.wants ≡ true = watcher_hears p w.wants parts.1 in
    rw (parts.0, one) refl

asleep_somebody : (g : Group) (w : Waiter) → is_asleep g w ≡ true → is_asleep Everybody w ≡ true
asleep_somebody g w h = let here : not w.is_woken ≡ true = (both (not w.is_woken) (is_in g w.wants) h).0 in rw here refl

pub never : (b : Bool) → b ≡ false → b ≡ true → ⊥
never b f t = cc

-- what is settled for the first item, whoever is woken then
pub record ItemsSettled (items p : ℕ) (ws : List Waiter) : Type 0 where
  pub threads : OneSleeps Threads ws → OneIsAwake Threads ws
  pub listeners : has Threads ws ≡ false → OneSleeps (Listeners p) ws → items ≤ count_awake (Listeners p) ws
  pub heard : has Threads ws ≡ false → OneSleeps Hearers ws → OneIsAwake Hearers ws ⊎ OneSleeps (HearWatchers p) ws
  pub watched : OneSleeps Dues ws → OneIsAwake Threads ws ⊎ OneIsAwake Dues ws ⊎ OneSleeps (Watchers p) ws
  pub alarms : ¬ OneSleeps (LateAlarms p) ws

threads_stay : (vs ws : List Waiter) → OnlyWakes vs ws → (OneSleeps Threads vs → OneIsAwake Threads vs) → OneSleeps Threads ws → OneIsAwake Threads ws
threads_stay vs ws o h s = one_awake_stays Threads vs ws o (h (one_slept Threads vs ws o s))

watch_stays : (p : ℕ) (vs ws : List Waiter) → OnlyWakes vs ws → OneIsAwake Threads vs ⊎ OneIsAwake Dues vs ⊎ OneSleeps (Watchers p) vs
    → OneIsAwake Threads ws ⊎ OneIsAwake Dues ws ⊎ OneSleeps (Watchers p) ws
watch_stays p vs ws o (inl a) = inl (one_awake_stays Threads vs ws o a)
watch_stays p vs ws o (inr (inl a)) = inr (inl (one_awake_stays Dues vs ws o a))
watch_stays p vs ws o (inr (inr s)) =
    elim (one_sleeps_or_is_awake (Watchers p) vs ws o s) [ inl t ↦ inr (inr t) | inr a ↦ inr (inl (awake_in_larger (Watchers p) Dues (awake_watcher p) ws a)) ]

alarms_stay : (p : ℕ) (vs ws : List Waiter) → OnlyWakes vs ws → (¬ OneSleeps (LateAlarms p) vs) → ¬ OneSleeps (LateAlarms p) ws
alarms_stay p vs ws o h s = h (one_slept (LateAlarms p) vs ws o s)

listeners_stay : (items p : ℕ) (vs ws : List Waiter) → OnlyWakes vs ws
    → (has Threads vs ≡ false → OneSleeps (Listeners p) vs → items ≤ count_awake (Listeners p) vs)
    → has Threads ws ≡ false → OneSleeps (Listeners p) ws → items ≤ count_awake (Listeners p) ws
listeners_stay items p vs ws o h none s =
    omega (arith, h (sym (has_same Threads vs ws o) ∙ none) (one_slept (Listeners p) vs ws o s), count_grows (Listeners p) vs ws o)

hears_still : (p : ℕ) (vs ws : List Waiter) → OnlyWakes vs ws → OneIsAwake Hearers vs ⊎ OneSleeps (HearWatchers p) vs
    → OneIsAwake Hearers ws ⊎ OneSleeps (HearWatchers p) ws
hears_still p vs ws o (inl a) = inl (one_awake_stays Hearers vs ws o a)
hears_still p vs ws o (inr s) =
    elim (one_sleeps_or_is_awake (HearWatchers p) vs ws o s) [ inl t ↦ inr t | inr a ↦ inl (awake_in_larger (HearWatchers p) Hearers (awake_hear_watcher p) ws a) ]

heard_stays : (p : ℕ) (vs ws : List Waiter) → OnlyWakes vs ws
    → (has Threads vs ≡ false → OneSleeps Hearers vs → OneIsAwake Hearers vs ⊎ OneSleeps (HearWatchers p) vs)
    → has Threads ws ≡ false → OneSleeps Hearers ws → OneIsAwake Hearers ws ⊎ OneSleeps (HearWatchers p) ws
heard_stays p vs ws o h none s = hears_still p vs ws o (h (sym (has_same Threads vs ws o) ∙ none) (one_slept Hearers vs ws o s))

pub items_settled_stay : (items p : ℕ) (vs ws : List Waiter) → OnlyWakes vs ws → ItemsSettled items p vs → ItemsSettled items p ws
items_settled_stay items p vs ws o h =
    record {
      threads = threads_stay vs ws o h.threads;
      listeners = listeners_stay items p vs ws o h.listeners;
      heard = heard_stays p vs ws o h.heard;
      watched = λ s. watch_stays p vs ws o (h.watched (one_slept Dues vs ws o s));
      alarms = alarms_stay p vs ws o h.alarms;
    }

-- The item is watched for, or one who takes what is due is awake.
watched_by : (p : ℕ) (ws : List Waiter) (b : Bool) → is_watched p ws ≡ b → OneSleeps Dues (cond b ws (enough_awake 1 Dues ws))
    → let after = cond b ws (enough_awake 1 Dues ws) in OneIsAwake Threads after ⊎ OneIsAwake Dues after ⊎ OneSleeps (Watchers p) after
watched_by p ws true e h = elim (either (list_any (is_awake Threads) ws) (list_any (is_asleep (Watchers p)) ws) e) [ inl a ↦ inl a | inr s ↦ inr (inr s) ]
watched_by p ws false e h = inr (inl (one_is_awake Dues ws h))

-- A listener is awake for each item, or a thread is in the list.
listened_by : (items p : ℕ) (ws : List Waiter) (b : Bool) → has Threads ws ≡ b
    → let after = cond b ws (heard_by_one p (enough_awake items (Listeners p) ws)) in
    has Threads after ≡ false → OneSleeps (Listeners p) after → items ≤ count_awake (Listeners p) after
listened_by items p ws true e none s = absurd (never (has Threads ws) none e)
listened_by items p ws false e none s =
    let a = enough_awake items (Listeners p) ws in
    listeners_stay items p a (heard_by_one p a) (only_heard p a) (λ f t. enough_are_awake items (Listeners p) ws t) none s

-- And one hears of the first.
one_hears : (p : ℕ) (ws : List Waiter) (b : Bool) → list_any (is_asleep (HearWatchers p)) ws ≡ b → OneSleeps Hearers (cond b ws (enough_awake 1 Hearers ws))
    → let after = cond b ws (enough_awake 1 Hearers ws) in OneIsAwake Hearers after ⊎ OneSleeps (HearWatchers p) after
one_hears p ws true e s = inr e
one_hears p ws false e s = inl (one_is_awake Hearers ws s)

heard_by : (items p : ℕ) (ws : List Waiter) (b : Bool) → has Threads ws ≡ b
    → let after = cond b ws (heard_by_one p (enough_awake items (Listeners p) ws)) in
    has Threads after ≡ false → OneSleeps Hearers after → OneIsAwake Hearers after ⊎ OneSleeps (HearWatchers p) after
heard_by items p ws true e none s = absurd (never (has Threads ws) none e)
heard_by items p ws false e none s =
    let a = enough_awake items (Listeners p) ws in one_hears p a (list_any (is_asleep (HearWatchers p)) a) refl s

pub items_settled : (items p : ℕ) (ws : List Waiter) → ItemsSettled items p (settled_for_items items (Some p) ws)
items_settled items p ws =
    let a = all_awake (LateAlarms p) ws in
    let b = enough_awake 1 Threads a in
    let c = watched_by_one p b in
    let d = listened_to items p c in
    let cd : OnlyWakes c d = only_listened items p c in
    let bd : OnlyWakes b d = only_trans b c d (only_watched p b) cd in
    let ad : OnlyWakes a d = only_trans a b d (only_enough 1 Threads a) bd in
    record {
      threads = threads_stay b d bd (one_is_awake Threads a);
      listeners = listened_by items p c (has Threads c) refl;
      heard = heard_by items p c (has Threads c) refl;
      watched = λ s. watch_stays p c d cd (watched_by p b (is_watched p b) refl (one_slept Dues c d cd s));
      alarms = alarms_stay p a d ad (never (list_any (is_asleep (LateAlarms p)) a) (all_awake_none (LateAlarms p) ws));
    }

-- Room.
abbrev for_room : Bool → Bool → ℕ → List Waiter → List Waiter
for_room shut fits room ws =
    cond shut (all_awake RoomListeners (all_awake Producers ws)) (cond fits (room_listened_to room (enough_awake 1 Producers ws)) ws)

no_producer : (ws : List Waiter) → ¬ OneSleeps Producers (all_awake RoomListeners (all_awake Producers ws))
no_producer ws s =
    let a = all_awake Producers ws in
    never (list_any (is_asleep Producers) a) (all_awake_none Producers ws) (one_slept Producers a (all_awake RoomListeners a) (only_all RoomListeners a) s)

no_room_listener : (ws : List Waiter) → ¬ OneSleeps RoomListeners (all_awake RoomListeners ws)
no_room_listener ws s = never (list_any (is_asleep RoomListeners) (all_awake RoomListeners ws)) (all_awake_none RoomListeners ws) s

room_by : (shut fits : Bool) (room : ℕ) (ws : List Waiter) → fits ≡ true
    → OneSleeps Producers (for_room shut fits room ws) → OneIsAwake Producers (for_room shut fits room ws)
room_by true fits room ws e s = absurd (no_producer ws s)
room_by false true room ws e s =
    let a = enough_awake 1 Producers ws in
    let o : OnlyWakes a (room_listened_to room a) = only_room_listened room a in
    one_awake_stays Producers a (room_listened_to room a) o (one_is_awake Producers ws (one_slept Producers a (room_listened_to room a) o s))
room_by false false room ws e s = absurd cc

listened_for_room : (room : ℕ) (ws : List Waiter) (b : Bool) → has Producers ws ≡ b
    → let after = cond b ws (enough_awake room RoomListeners ws) in
    has Producers after ≡ false → OneSleeps RoomListeners after → room ≤ count_awake RoomListeners after
listened_for_room room ws true e none s = absurd (never (has Producers ws) none e)
listened_for_room room ws false e none s = enough_are_awake room RoomListeners ws s

room_listeners_by : (shut fits : Bool) (room : ℕ) (ws : List Waiter) → fits ≡ true → has Producers (for_room shut fits room ws) ≡ false
    → OneSleeps RoomListeners (for_room shut fits room ws) → room ≤ count_awake RoomListeners (for_room shut fits room ws)
room_listeners_by true fits room ws e none s = absurd (no_room_listener (all_awake Producers ws) s)
room_listeners_by false true room ws e none s =
    let a = enough_awake 1 Producers ws in listened_for_room room a (has Producers a) refl none s
room_listeners_by false false room ws e none s = absurd cc

shut_by : (shut fits : Bool) (room : ℕ) (ws : List Waiter) → shut ≡ true → ¬ OneSleeps Producers (for_room shut fits room ws)
shut_by true fits room ws e s = no_producer ws s
shut_by false fits room ws e s = absurd cc

shut_listeners_by : (shut fits : Bool) (room : ℕ) (ws : List Waiter) → shut ≡ true → ¬ OneSleeps RoomListeners (for_room shut fits room ws)
shut_listeners_by true fits room ws e s = no_room_listener (all_awake Producers ws) s
shut_listeners_by false fits room ws e s = absurd cc

fits_so : (a b : ℕ) → a < b → nat_lt a b ≡ true
fits_so a b l = grind (arith, nat_tests)

is_over_by : (stock : Stock) → is_over stock ≡ false → (stock.is_spent ≡ false) × ((stock.is_shut && is_none stock.first) ≡ false)
is_over_by stock h = neither stock.is_spent (stock.is_shut && is_none stock.first) h

settled_by : (stock : Stock) (ws : List Waiter) (b : Bool) → is_over stock ≡ b
    → IsSettled stock (cond b (all_awake Everybody ws) (settled_for_room stock (settled_for_items stock.items stock.first ws)))
settled_by stock ws true e =
    let after = all_awake Everybody ws in
    let nobody : (g : Group) → ¬ OneSleeps g after = λ g s. never (list_any (is_asleep Everybody) after) (all_awake_none Everybody ws) (asleep_in_larger g Everybody (asleep_somebody g) after s) in
    record {
      threads = λ p f s. absurd (nobody Threads s);
      listeners = λ p f n s. absurd (nobody (Listeners p) s);
      heard = λ p f n s. absurd (nobody Hearers s);
      watched = λ p f s. absurd (nobody Dues s);
      alarms = λ p f s. nobody (LateAlarms p) s;
      room = λ l s. absurd (nobody Producers s);
      room_listeners = λ l n s. absurd (nobody RoomListeners s);
      shut = λ h s. nobody Producers s;
      shut_listeners = λ h s. nobody RoomListeners s;
      over = λ h f s. nobody Everybody s;
      spent = λ h s. nobody Everybody s;
    }
settled_by stock ws false e =
    let items = settled_for_items stock.items stock.first ws in
    let after = settled_for_room stock items in
    let parts = is_over_by stock e in
    let first : (p : ℕ) → stock.first ≡ Some p → ItemsSettled stock.items p after =
    λ p f. items_settled_stay stock.items p items after (only_room stock items) (subst (λ (o : Option ℕ). ItemsSettled stock.items p (settled_for_items stock.items o ws)) (sym f) (items_settled stock.items p ws)) in
    record {
      threads = λ p f. (first p f).threads;
      listeners = λ p f. (first p f).listeners;
      heard = λ p f. (first p f).heard;
      watched = λ p f. (first p f).watched;
      alarms = λ p f. (first p f).alarms;
      room = λ l. room_by stock.is_shut (nat_lt stock.items stock.bound) (stock.bound - stock.items) items (fits_so stock.items stock.bound l);
      room_listeners = λ l n s. omega (
        arith,
        room_listeners_by stock.is_shut (nat_lt stock.items stock.bound) (stock.bound - stock.items) items (fits_so stock.items stock.bound l) n s,
      );
      shut = λ h. shut_by stock.is_shut (nat_lt stock.items stock.bound) (stock.bound - stock.items) items h;
      shut_listeners = λ h. shut_listeners_by stock.is_shut (nat_lt stock.items stock.bound) (stock.bound - stock.items) items h;
      over = λ h f s. never (stock.is_shut && is_none stock.first) parts.1 (rw (h, f) refl);
      spent = λ h s. never stock.is_spent parts.0 h;
    }

pub is_settled : (stock : Stock) (ws : List Waiter) → IsSettled stock (settled stock ws)
is_settled stock ws = settled_by stock ws (is_over stock) refl

-- a list that as many were written into
pub refilled : (xs ys : List Waiter) → length ys ≡ length xs → refill (length xs) xs ys ≡ ys
refilled xs ys e = subst (λ (n : ℕ). take n (ys ++ drop (length ys) xs) ≡ ys) e (take-append_seam ys (drop (length ys) xs))

length_settled : (stock : Stock) (ws : List Waiter) → length (settled stock ws) ≡ length ws
length_settled stock ws = sym (length_numbers (settled stock ws)) ∙ (ap length (same_numbers ws (settled stock ws) (only_settled stock ws)) ∙ length_numbers ws)

pub refilled_settled : (stock : Stock) (ws new : List Waiter) → new ≡ settled stock ws → refill (length ws) ws new ≡ settled stock ws
refilled_settled stock ws new e = refilled ws new (ap length e ∙ length_settled stock ws) ∙ e
