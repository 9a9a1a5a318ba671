-- What holds behind every list of events.
use Rattle.std.proofs.Common.{◌≡◌, ℕ, ◌+◌, ◌<◌, ◌≤◌, List, [], ◌∷◌, Bool, true, false, not, ◌&&◌, ◌⊎◌, Option, Some, None, nat_le, min, length, inl, inr, refl, sym, ap, subst, arith}
use Rattle.std.specs.List.{list_any, AllByRecursion}
use Rattle.std.proofs.lemmas.Bool.Decides.{nat_tests}
use Rattle.std.proofs.lemmas.Bool.{cases_lt}
use Rattle.wait_list.specs.declared.group.Group.{Group}
use Rattle.wait_list.specs.declared.group.Group.TheVariants.{Threads, Listeners, Hearers, HearWatchers, Dues, Watchers, LateAlarms, Producers, RoomListeners, Everybody}
use Rattle.wait_list.specs.declared.waiter.Wants.{Wants}
use Rattle.wait_list.specs.declared.waiter.Wants.TheVariants.{Any, UpTo, Due, Alarm, Room, RoomUp}
use Rattle.wait_list.specs.declared.waiter.Waiter.{Waiter}
use Rattle.wait_list.specs.Waiters.{is_in, is_asleep, is_awake, OneSleeps, OneIsAwake, has, count_awake, is_by, watches, hears_by_itself}
use Rattle.wait_list.specs.Settled.{IsSettled}
use Rattle.wait_list.specs.Runs.{Event, World, run, opening, happens, after, stock_of, least, least_with, HasNothing, MaySleep, AllAreBack}
use Rattle.wait_list.proofs.FirstOnes.{neither}
use Rattle.wait_list.proofs.OnlyWakings.{both, left_or, right_or, awake_in_larger, asleep_in_larger, has_either, counts_one}
use Rattle.wait_list.proofs.Settling.{is_settled, never}

-- The list is settled.
abbrev Stands : World → Type 0
Stands w = IsSettled (stock_of w) w.waiters

at_opening : (bound : ℕ) → Stands (opening bound)
at_opening bound =
    record {
      threads = λ p f s. absurd (never false refl s);
      listeners = λ p f n s. absurd (never false refl s);
      heard = λ p f n s. absurd (never false refl s);
      watched = λ p f s. absurd (never false refl s);
      alarms = λ p f s. never false refl s;
      room = λ l s. absurd (never false refl s);
      room_listeners = λ l n s. absurd (never false refl s);
      shut = λ h s. never false refl s;
      shut_listeners = λ h s. never false refl s;
      over = λ h f s. never false refl s;
      spent = λ h s. never false refl s;
    }

along : (events : List Event) (w : World) → Stands w → Stands (run events w)
along [] w h = h
along (e ∷ es) w h = along es (happens w e) (is_settled (stock_of (after w e)) (after w e).waiters)

pub every_run : (bound : ℕ) (events : List Event) → Stands (run events (opening bound))
every_run bound events = along events (opening bound) (at_opening bound)

-- The least priority is among the first things to know of a list of them.
some_with : (x : ℕ) (o : Option ℕ) → least_with x o ≡ None → ⊥
some_with x None h = cc
some_with x (Some y) h = cc

none_is_empty : (xs : List ℕ) → least xs ≡ None → xs ≡ []
none_is_empty [] h = refl
none_is_empty (x ∷ xs) h = absurd (some_with x (least xs) h)

some_is_there : (xs : List ℕ) (p : ℕ) → least xs ≡ Some p → 1 ≤ length xs
some_is_there [] p h = absurd cc
some_is_there (x ∷ xs) p h = omega arith

all_from : (P : ℕ → Type 0) (p : ℕ) → ((q : ℕ) → p ≤ q → P q) → (xs : List ℕ) → AllByRecursion (λ q. p ≤ q) xs → AllByRecursion P xs
all_from P p f [] h = tt
all_from P p f (x ∷ xs) h = (f x h.0, all_from P p f xs h.1)

least_by : (x : ℕ) (xs : List ℕ) (o : Option ℕ) (p : ℕ) → least xs ≡ o → ((y : ℕ) → least xs ≡ Some y → AllByRecursion (λ q. y ≤ q) xs) → least_with x o ≡ Some p
    → (p ≤ x) × AllByRecursion (λ q. p ≤ q) xs
least_by x xs None p e f h =
    let same : x ≡ p = cc in
    (omega (arith, same), subst (λ (ys : List ℕ). AllByRecursion (λ q. p ≤ q) ys) (sym (none_is_empty xs e)) tt)
least_by x xs (Some y) p e f h =
    let same : min x y ≡ p = cc in
    (omega (arith, same), all_from (λ q. p ≤ q) y (λ q l. omega (arith, same, l)) xs (f y e))

least_all : (xs : List ℕ) (p : ℕ) → least xs ≡ Some p → AllByRecursion (λ q. p ≤ q) xs
least_all [] p h = tt
least_all (x ∷ xs) p h = least_by x xs (least xs) p refl (λ y e. least_all xs y e) h

-- Nobody who was woken is away, so whoever is in the list sleeps.
awake_somebody : (g : Group) (w : Waiter) → is_awake g w ≡ true → is_awake Everybody w ≡ true
awake_somebody g w h = let woken_one : w.is_woken ≡ true = (both w.is_woken (is_in g w.wants) h).0 in rw woken_one refl

back_of_group : (g : Group) (ws : List Waiter) → list_any (is_awake Everybody) ws ≡ false → ¬ OneIsAwake g ws
back_of_group g ws h a = never (list_any (is_awake Everybody) ws) h (awake_in_larger g Everybody (awake_somebody g) ws a)

sleeps : (b : Bool) → (b && true) ≡ false → not b ≡ true
sleeps true h = absurd cc
sleeps false h = refl

asleep_in : (g : Group) (u : Waiter) → is_awake Everybody u ≡ false → is_in g u.wants ≡ true → is_asleep g u ≡ true
asleep_in g u h i = let here : not u.is_woken ≡ true = sleeps u.is_woken h in rw (here, i) refl

-- what is known of each who sleeps holds of each in the list
each_asleep : (P : Wants → Type 0) (us ws : List Waiter) → list_any (is_awake Everybody) us ≡ false → ((g : Group) → OneSleeps g us → OneSleeps g ws)
    → ((x : Wants) → ((g : Group) → is_in g x ≡ true → OneSleeps g ws) → P x) → AllByRecursion (λ w. P w.wants) us
each_asleep P [] ws h k f = tt
each_asleep P (u ∷ us) ws h k f =
    let none = neither (is_awake Everybody u) (list_any (is_awake Everybody) us) h in (
      f u.wants (λ g i. k g (left_or (is_asleep g u) (list_any (is_asleep g) us) (asleep_in g u none.0 i))),
      each_asleep P us ws none.1 (λ g s. k g (right_or (is_asleep g u) (list_any (is_asleep g) us) s)) f,
    )

-- What each may sleep for.
abbrev Knows : World → Wants → Type 0
Knows w x = (g : Group) → is_in g x ≡ true → OneSleeps g w.waiters

is_false : (b : Bool) → (¬ (b ≡ true)) → b ≡ false
is_false true h = absurd (h refl)
is_false false h = refl

is_true : (b : Bool) → (¬ (b ≡ false)) → b ≡ true
is_true true h = refl
is_true false h = absurd (h refl)

not_so : (b : Bool) → b ≡ false → not b ≡ true
not_so true h = absurd cc
not_so false h = refl

over_first : (p b : ℕ) → nat_le p b ≡ false → b < p
over_first p b h = grind (arith, nat_tests)

by_later : (p q : ℕ) (time : Option ℕ) → p ≤ q → is_by p time ≡ true → is_by q time ≡ true
by_later p q None l h = h
by_later p q (Some t) l h = grind (arith, nat_tests)

watches_later : (p q : ℕ) (x : Wants) → p ≤ q → watches p x ≡ true → watches q x ≡ true
watches_later p q Any l h = h
watches_later p q (UpTo b s) l h = h
watches_later p q (Due t) l h = by_later p q t l h
watches_later p q (Alarm t) l h = h
watches_later p q Room l h = h
watches_later p q RoomUp l h = h

hears_later : (p q : ℕ) (x : Wants) → p ≤ q → hears_by_itself p x ≡ true → hears_by_itself q x ≡ true
hears_later p q Any l h = h
hears_later p q (UpTo b s) l h = by_later p q s l h
hears_later p q (Due t) l h = h
hears_later p q (Alarm t) l h = h
hears_later p q Room l h = h
hears_later p q RoomUp l h = h

asleep_later : (p q : ℕ) → p ≤ q → (w : Waiter) → is_asleep (Watchers p) w ≡ true → is_asleep (Watchers q) w ≡ true
asleep_later p q l w h =
    let parts = both (not w.is_woken) (watches p w.wants) h in
    let later : watches q w.wants ≡ true = watches_later p q w.wants l parts.1 in
    rw (parts.0, later) refl

asleep_hearer_later : (p q : ℕ) → p ≤ q → (w : Waiter) → is_asleep (HearWatchers p) w ≡ true → is_asleep (HearWatchers q) w ≡ true
asleep_hearer_later p q l w h =
    let parts = both (not w.is_woken) (hears_by_itself p w.wants) h in
    let later : hears_by_itself q w.wants ≡ true = hears_later p q w.wants l parts.1 in
    rw (parts.0, later) refl

-- with no item, each of them has anything
of_none : (P : ℕ → Type 0) (xs : List ℕ) → least xs ≡ None → AllByRecursion P xs
of_none P xs e = subst (λ (ys : List ℕ). AllByRecursion P ys) (sym (none_is_empty xs e)) tt

module _ (w : World) (h : Stands w) (back : AllAreBack w) where
  any_nothing : (o : Option ℕ) → least w.items ≡ o → Knows w Any → w.items ≡ []
  any_nothing None e k = none_is_empty w.items e
  any_nothing (Some p) e k = absurd (back_of_group Threads w.waiters back (h.threads p e (k Threads refl)))

  -- a thread that is in the list sleeps, and then nothing is there to take
  no_thread : (p : ℕ) → least w.items ≡ Some p → has Threads w.waiters ≡ false
  no_thread p e =
      is_false (has Threads w.waiters)
      (λ s. back_of_group Threads w.waiters back
      (elim (has_either Threads w.waiters s) [ inl t ↦ h.threads p e t | inr a ↦ a ]))

  up_to_by : (b p : ℕ) (s : Option ℕ) (t : Bool) → nat_le p b ≡ t → least w.items ≡ Some p → Knows w (UpTo b s) → AllByRecursion (λ q. b < q) w.items
  up_to_by b p s true f e k =
      let awake : length w.items ≤ count_awake (Listeners p) w.waiters = h.listeners p e (no_thread p e) (k (Listeners p) f) in
      absurd (back_of_group (Listeners p) w.waiters back (counts_one (Listeners p) w.waiters (omega (arith, awake, some_is_there w.items p e))))
  up_to_by b p s false f e k = let first : b < p = over_first p b f in all_from (λ q. b < q) p (λ q l. omega (arith, first, l)) w.items (least_all w.items p e)

  up_to_nothing : (b : ℕ) (s o : Option ℕ) → least w.items ≡ o → Knows w (UpTo b s) → AllByRecursion (λ q. b < q) w.items
  up_to_nothing b s None e k = of_none (λ q. b < q) w.items e
  up_to_nothing b s (Some p) e k = up_to_by b p s (nat_le p b) refl e k

  heard_nothing : (b : ℕ) (s o : Option ℕ) → least w.items ≡ o → Knows w (UpTo b s) → AllByRecursion (λ q. OneSleeps (HearWatchers q) w.waiters) w.items
  heard_nothing b s None e k = of_none (λ q. OneSleeps (HearWatchers q) w.waiters) w.items e
  heard_nothing b s (Some p) e k =
      elim (h.heard p e (no_thread p e) (k Hearers refl)) [
        | inl a ↦ absurd (back_of_group Hearers w.waiters back a)
        | inr t ↦ all_from (λ q. OneSleeps (HearWatchers q) w.waiters) p (λ q l. asleep_in_larger (HearWatchers p) (HearWatchers q) (asleep_hearer_later p q l) w.waiters t) w.items (least_all w.items p e)
      ]

  due_nothing : (t : Option ℕ) (o : Option ℕ) → least w.items ≡ o → Knows w (Due t) → AllByRecursion (λ q. OneSleeps (Watchers q) w.waiters) w.items
  due_nothing t None e k = of_none (λ q. OneSleeps (Watchers q) w.waiters) w.items e
  due_nothing t (Some p) e k =
      elim (h.watched p e (k Dues refl)) [
        | inl t ↦ absurd (back_of_group Threads w.waiters back t)
        | inr (inl a) ↦ absurd (back_of_group Dues w.waiters back a)
        | inr (inr s) ↦ all_from (λ q. OneSleeps (Watchers q) w.waiters) p (λ q l. asleep_in_larger (Watchers p) (Watchers q) (asleep_later p q l) w.waiters s) w.items (least_all w.items p e)
      ]

  alarm_nothing : (t : Option ℕ) (o : Option ℕ) → least w.items ≡ o → Knows w (Alarm t) → AllByRecursion (λ q. is_by q t ≡ true) w.items
  alarm_nothing t None e k = of_none (λ q. is_by q t ≡ true) w.items e
  alarm_nothing t (Some p) e k =
      let rings : is_by p t ≡ true = is_true (is_by p t) (λ f. h.alarms p e (k (LateAlarms p) (not_so (is_by p t) f))) in
      all_from (λ q. is_by q t ≡ true) p (λ q l. by_later p q t l rings) w.items (least_all w.items p e)

  room_nothing : Knows w Room → (w.bound ≤ length w.items) × (w.is_shut ≡ false)
  room_nothing k = (
    elim (cases_lt (length w.items) w.bound) [
      | inl l ↦ absurd (back_of_group Producers w.waiters back (h.room l (k Producers refl)))
      | inr l ↦ omega (arith, l)
    ],
    is_false w.is_shut (λ s. h.shut s (k Producers refl)),
  )

  -- where there is room a producer that sleeps beside it would have been woken, and so there is none
  no_room : w.bound ≤ length w.items ⊎ has Producers w.waiters ≡ false
  no_room =
      elim (cases_lt (length w.items) w.bound) [
        | inl l ↦ inr (is_false (has Producers w.waiters)
            (λ t. back_of_group Producers w.waiters back
            (elim (has_either Producers w.waiters t) [ inl s ↦ h.room l s | inr a ↦ a ])))
        | inr l ↦ inl (omega (arith, l))
      ]

  room_up_by : Knows w RoomUp → w.bound ≤ length w.items ⊎ has Producers w.waiters ≡ false → w.bound ≤ length w.items
  room_up_by k (inl l) = l
  room_up_by k (inr none) =
      elim (cases_lt (length w.items) w.bound) [
        | inl l ↦
            let awake : w.bound ≤ length w.items + count_awake RoomListeners w.waiters = h.room_listeners l none (k RoomListeners refl) in
            absurd (back_of_group RoomListeners w.waiters back (counts_one RoomListeners w.waiters (omega (arith, awake, l))))
        | inr l ↦ omega (arith, l)
      ]

  room_up_nothing : Knows w RoomUp → (w.bound ≤ length w.items) × (w.is_shut ≡ false)
  room_up_nothing k = (room_up_by k no_room, is_false w.is_shut (λ s. h.shut_listeners s (k RoomListeners refl)))

  has_nothing : (x : Wants) → Knows w x → HasNothing w x
  has_nothing Any k = any_nothing (least w.items) refl k
  has_nothing (UpTo b s) k = (up_to_nothing b s (least w.items) refl k, heard_nothing b s (least w.items) refl k)
  has_nothing (Due t) k = due_nothing t (least w.items) refl k
  has_nothing (Alarm t) k = alarm_nothing t (least w.items) refl k
  has_nothing Room k = room_nothing k
  has_nothing RoomUp k = room_up_nothing k

  may_sleep : (x : Wants) → Knows w x → MaySleep w x
  may_sleep x k =
      record {
        has_nothing = has_nothing x k;
        goes_on = is_false w.is_spent (λ e. h.spent e (k Everybody refl));
        is_open = λ s e. h.over s (ap least e) (k Everybody refl);
      }

  all_may_sleep : AllByRecursion (λ v. MaySleep w v.wants) w.waiters
  all_may_sleep = each_asleep (MaySleep w) w.waiters w.waiters back (λ g s. s) may_sleep

pub back_in_every_run : (bound : ℕ) (events : List Event) → AllAreBack (run events (opening bound))
    → AllByRecursion (λ v. MaySleep (run events (opening bound)) v.wants) (run events (opening bound)).waiters
back_in_every_run bound events back = all_may_sleep (run events (opening bound)) (every_run bound events) back
