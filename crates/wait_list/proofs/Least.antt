-- No list that is settled has fewer awake: of each kind, and so of all.
use Rattle.std.proofs.Common.{◌≡◌, ℕ, zero, suc, ◌+◌, ◌-◌, ◌<◌, ◌≤◌, List, [], ◌∷◌, Bool, true, false, ◌&&◌, cond, Option, Some, None, is_none, nat_lt, ◌⊎◌, inl, inr, refl, sym, ◌∙◌, ap, subst, arith}
use Rattle.std.specs.List.{list_any}
use Rattle.std.proofs.lemmas.Bool.Decides.{nat_tests}
use Rattle.wait_list.specs.declared.group.Group.{Group}
use Rattle.wait_list.specs.declared.group.Group.TheVariants.{Threads, Listeners, Hearers, HearWatchers, Dues, Watchers, LateAlarms, Producers, RoomListeners, Everybody}
use Rattle.wait_list.specs.declared.waiter.Wants.{Wants}
use Rattle.wait_list.specs.declared.waiter.Waiter.{Waiter}
use Rattle.wait_list.specs.declared.stock.Stock.{Stock}
use Rattle.wait_list.specs.Waiters.{is_in, is_asleep, is_awake, OneSleeps, OneIsAwake, has, count_awake, woken}
use Rattle.wait_list.specs.Settled.{woken_first, enough_awake, all_awake, awake_if_in, is_watched, watched_by_one, heard_by_one, listened_to, room_listened_to, threads_settled, settled_for_items, settled_for_room, is_over, settled, IsSameOrWoken, OnlyWakes, IsSettled}
use Rattle.wait_list.proofs.FirstOnes.{neither, woken_none}
use Rattle.wait_list.proofs.OnlyWakings.{both, either, left_or, right_or, asleep_before, only_settled, only_refl, only_trans, only_enough, only_threads, only_watched, only_items, awake_in_larger, has_same, has_either, awake_has, none_or_one, one_is_awake, one_counts}
use Rattle.wait_list.proofs.Settling.{never}
use Rattle.wait_list.proofs.Fewest.{Kind, kind, anyone, count, count_anyone, by_kinds, OnKind, SameOn, Within, along_same, same_refl, same_trans, same_count, same_wants_if, of_group, more_count}
use Rattle.wait_list.proofs.OfKinds.{awake_listener, threads_within, listeners_within, hearers_within, hear_watchers_within, room_listeners_within, dues_within, watchers_within, producers_within, same_alarms, same_threads, same_watched, same_listened, same_producers, same_all_producers, same_room_listened, same_all_room_listeners, same_room, same_after_threads, of_room_3, of_room_5, same_items}

-- Where more of a group are awake, so many more of its kind are.
gain_one : (x y i t : Bool) → (i ≡ true → t ≡ true) → (t ≡ true → y ≡ true → x ≡ true)
    → cond (x && i) 1 0 + cond (y && t) 1 0 ≤ cond (x && t) 1 0 + cond (y && i) 1 0
gain_one true true i t h k = omega arith
gain_one false false i t h k = omega arith
gain_one true false true true h k = omega arith
gain_one true false true false h k = absurd (never false refl (h refl))
gain_one true false false t h k = omega arith
gain_one false true i true h k = absurd (never false refl (k refl refl))
gain_one false true i false h k = omega arith

stays_woken : (v w : Waiter) → IsSameOrWoken v w → v.is_woken ≡ true → w.is_woken ≡ true
stays_woken v w (inl e) h = subst (λ (x : Waiter). x.is_woken ≡ true) (sym e) h
stays_woken v w (inr e) h = ap (λ (x : Waiter). x.is_woken) e

gains_here : (g : Group) (t : Kind) (v w : Waiter) → Within g t → (t v.wants ≡ true → IsSameOrWoken v w) → w.wants ≡ v.wants
    → cond (w.is_woken && is_in g w.wants) 1 0 + cond (v.is_woken && t v.wants) 1 0 ≤ cond (w.is_woken && t w.wants) 1 0 + cond (v.is_woken && is_in g v.wants) 1 0
gains_here g t v w i f e = rw e (gain_one w.is_woken v.is_woken (is_in g v.wants) (t v.wants) (i v.wants) (λ h. stays_woken v w (f h)))

gains : (g : Group) (t : Kind) → Within g t → (vs ws : List Waiter) → OnKind t vs ws → count_awake g ws + count t vs ≤ count t ws + count_awake g vs
gains g t i [] [] o = omega arith
gains g t i [] (w ∷ ws) o = absurd o
gains g t i (v ∷ vs) [] o = absurd o
gains g t i (v ∷ vs) (w ∷ ws) o = omega (arith, gains_here g t v w i o.0.0 o.0.1, gains g t i vs ws o.1)

-- one of the group who sleeps slept before
slept_before : (g : Group) (t : Kind) → Within g t → (vs ws : List Waiter) → OnKind t vs ws → OneSleeps g ws → OneSleeps g vs
slept_before g t i [] [] o s = s
slept_before g t i [] (w ∷ ws) o s = absurd o
slept_before g t i (v ∷ vs) [] o s = absurd o
slept_before g t i (v ∷ vs) (w ∷ ws) o s =
    elim (either (is_asleep g w) (list_any (is_asleep g) ws) s) [
      | inl here ↦
          let h : t v.wants ≡ true = subst (λ (x : Wants). t x ≡ true) o.0.1 (i w.wants (of_group g w here)) in
          left_or (is_asleep g v) (list_any (is_asleep g) vs) (asleep_before g v w (o.0.0 h) here)
      | inr there ↦ right_or (is_asleep g v) (list_any (is_asleep g) vs) (slept_before g t i vs ws o.1 there)
    ]

-- where nobody of the group sleeps, all of them are awake
all_by : (g : Group) (t : Kind) (v w : Waiter) (b : Bool) → is_asleep g v ≡ b → is_asleep g w ≡ false → IsSameOrWoken v w → IsSameOrWoken (cond b (woken v) v) w
all_by g t v w true e nn (inl f) = absurd (never (is_asleep g w) nn (subst (λ (x : Waiter). is_asleep g x ≡ true) (sym f) e))
all_by g t v w true e nn (inr f) = inl f
all_by g t v w false e nn s = s

all_on : (g : Group) (t : Kind) (vs ws : List Waiter) → OnKind t vs ws → list_any (is_asleep g) ws ≡ false → OnKind t (all_awake g vs) ws
all_on g t [] [] o nn = tt
all_on g t [] (w ∷ ws) o nn = absurd o
all_on g t (v ∷ vs) [] o nn = absurd o
all_on g t (v ∷ vs) (w ∷ ws) o nn =
    let none = neither (is_asleep g w) (list_any (is_asleep g) ws) nn in
    let wants : (awake_if_in g v).wants ≡ v.wants = same_wants_if (is_asleep g v) v in
    ((λ h. all_by g t v w (is_asleep g v) refl none.0 (o.0.0 (subst (λ (x : Wants). t x ≡ true) wants h)), o.0.1 ∙ sym wants), all_on g t vs ws o.1 none.1)

-- and so are the first ones
first_on_by : (n : ℕ) (g : Group) (t : Kind) (v w : Waiter) (vs ws : List Waiter) (b : Bool) → is_asleep g v ≡ b → is_asleep g w ≡ false
    → (t v.wants ≡ true → IsSameOrWoken v w) → w.wants ≡ v.wants → OnKind t (woken_first n g vs) ws → OnKind t (woken_first (suc n) g vs) ws
    → OnKind t (cond b (woken v ∷ woken_first n g vs) (v ∷ woken_first (suc n) g vs)) (w ∷ ws)
first_on_by n g t v w vs ws true e nn f k r s = ((λ h. all_by g t v w true e nn (f h), k), r)
first_on_by n g t v w vs ws false e nn f k r s = ((f, k), s)

first_on : (n : ℕ) (g : Group) (t : Kind) (vs ws : List Waiter) → OnKind t vs ws → list_any (is_asleep g) ws ≡ false → OnKind t (woken_first n g vs) ws
first_on n g t [] [] o nn = tt
first_on n g t [] (w ∷ ws) o nn = absurd o
first_on n g t (v ∷ vs) [] o nn = absurd o
first_on zero g t (v ∷ vs) (w ∷ ws) o nn = o
first_on (suc n) g t (v ∷ vs) (w ∷ ws) o nn =
    let none = neither (is_asleep g w) (list_any (is_asleep g) ws) nn in
    first_on_by n g t v w vs ws (is_asleep g v) refl none.0 o.0.0 o.0.1 (first_on n g t vs ws o.1 none.1) (first_on (suc n) g t vs ws o.1 none.1)

-- Waking the first ones wakes so many at most.
at_most_one : (b : Bool) → cond b 1 0 ≤ 1
at_most_one true = omega arith
at_most_one false = omega arith

first_count_by : (n : ℕ) (g : Group) (t : Kind) (v : Waiter) (vs : List Waiter) (b : Bool) → count t (woken_first n g vs) ≤ count t vs + n
    → count t (woken_first (suc n) g vs) ≤ count t vs + suc n
    → count t (cond b (woken v ∷ woken_first n g vs) (v ∷ woken_first (suc n) g vs)) ≤ count t (v ∷ vs) + suc n
first_count_by n g t v vs true h k = omega (arith, at_most_one (true && t v.wants), h)
first_count_by n g t v vs false h k = omega (arith, k)

first_count : (n : ℕ) (g : Group) (t : Kind) (vs : List Waiter) → count t (woken_first n g vs) ≤ count t vs + n
first_count n g t [] = omega arith
first_count zero g t (v ∷ vs) = omega arith
first_count (suc n) g t (v ∷ vs) = first_count_by n g t v vs (is_asleep g v) (first_count n g t vs) (first_count (suc n) g t vs)

enough_by : (n : ℕ) (g : Group) (t : Kind) (vs ws : List Waiter) (b : Bool) → list_any (is_asleep g) ws ≡ b → Within g t → OnKind t vs ws
    → (OneSleeps g ws → n ≤ count_awake g ws) → count t (enough_awake n g vs) ≤ count t ws
enough_by n g t vs ws true e i o f =
    omega (arith, first_count (n - count_awake g vs) g t vs, gains g t i vs ws o, more_count t vs ws o, f e)
enough_by n g t vs ws false e i o f = more_count t (enough_awake n g vs) ws (first_on (n - count_awake g vs) g t vs ws o e)

enough_count : (n : ℕ) (g : Group) (t : Kind) → Within g t → (vs ws : List Waiter) → OnKind t vs ws → (OneSleeps g ws → n ≤ count_awake g ws)
    → count t (enough_awake n g vs) ≤ count t ws
enough_count n g t i vs ws o f = enough_by n g t vs ws (list_any (is_asleep g) ws) refl i o f

one_count : (g : Group) (t : Kind) → Within g t → (vs ws : List Waiter) → OnKind t vs ws → (OneSleeps g ws → OneIsAwake g ws) → count t (enough_awake 1 g vs) ≤ count t ws
one_count g t i vs ws o f = enough_count 1 g t i vs ws o (λ s. one_counts g ws (f s))

is_false : (b : Bool) → (¬ (b ≡ true)) → b ≡ false
is_false true h = absurd (h refl)
is_false false h = refl

-- Where one of the group is awake already, nobody is woken.
enough_already : (g : Group) (ws : List Waiter) → OneIsAwake g ws → enough_awake 1 g ws ≡ ws
enough_already g ws h =
    let e : 1 - count_awake g ws ≡ 0 = omega (arith, one_counts g ws h) in
    subst (λ (n : ℕ). woken_first n g ws ≡ ws) (sym e) (woken_none g ws)

-- One hears of the first item: either a listener was woken for it, who hears too, or nobody was.
module _ (p : ℕ) (cs vs : List Waiter) (on : OnKind (kind 4) cs vs)
    (rule : OneSleeps Hearers vs → OneIsAwake Hearers vs ⊎ OneSleeps (HearWatchers p) vs) where
  nobody_woken : list_any (is_asleep (HearWatchers p)) cs ≡ false → count (kind 4) (enough_awake 1 Hearers cs) ≤ count (kind 4) vs
  nobody_woken e =
      one_count Hearers (kind 4) hearers_within cs vs on
      (λ s. elim (rule s) [
        | inl a ↦ a
        | inr t ↦ absurd (never (list_any (is_asleep (HearWatchers p)) cs) e (slept_before (HearWatchers p) (kind 4) (hear_watchers_within p) cs vs on t))
      ])

  one_hears : (ds : List Waiter) (b : Bool) → list_any (is_asleep (HearWatchers p)) ds ≡ b → (ds ≡ cs) ⊎ OneIsAwake (Listeners p) ds
      → count (kind 4) ds ≤ count (kind 4) vs → count (kind 4) (cond b ds (enough_awake 1 Hearers ds)) ≤ count (kind 4) vs
  one_hears ds true e h l = l
  one_hears ds false e (inl same) l =
      subst (λ (xs : List Waiter). count (kind 4) (enough_awake 1 Hearers xs) ≤ count (kind 4) vs) (sym same)
      (nobody_woken (subst (λ (xs : List Waiter). list_any (is_asleep (HearWatchers p)) xs ≡ false) same e))
  one_hears ds false e (inr a) l =
      subst (λ (xs : List Waiter). count (kind 4) xs ≤ count (kind 4) vs)
      (sym (enough_already Hearers ds (awake_in_larger (Listeners p) Hearers (awake_listener p) ds a))) l

module _ (items p : ℕ) (ws vs : List Waiter) (only : OnlyWakes ws vs) where
  threads_fewest : (OneSleeps Threads vs → OneIsAwake Threads vs) → count (kind 0) (settled_for_items items (Some p) ws) ≤ count (kind 0) vs
  threads_fewest rule =
      let a = all_awake (LateAlarms p) ws in
      let b = enough_awake 1 Threads a in
      let on : OnKind (kind 0) a vs = along_same (kind 0) ws a vs (same_alarms p 0 refl ws) only in
      omega (
        arith,
        one_count Threads (kind 0) threads_within a vs on rule,
        same_count (kind 0) b (listened_to items p (watched_by_one p b)) (same_after_threads items p 0 refl refl b),
      )

  alarms_fewest : (¬ OneSleeps (LateAlarms p) vs) → count (kind 2) (settled_for_items items (Some p) ws) ≤ count (kind 2) vs
  alarms_fewest rule =
      let a = all_awake (LateAlarms p) ws in
      let b = enough_awake 1 Threads a in
      let c = listened_to items p (watched_by_one p b) in
      let on : OnKind (kind 2) a vs =
      all_on (LateAlarms p) (kind 2) ws vs (along_same (kind 2) ws ws vs (same_refl (kind 2) ws) only) (is_false (list_any (is_asleep (LateAlarms p)) vs) rule) in
      omega (
        arith,
        more_count (kind 2) a vs on,
        same_count (kind 2) a c (same_trans (kind 2) a b c (same_threads 2 refl a) (same_after_threads items p 2 refl refl b)),
      )

  same_before_dues : SameOn (kind 1) ws (threads_settled p ws)
  same_before_dues =
      let a = all_awake (LateAlarms p) ws in same_trans (kind 1) ws a (enough_awake 1 Threads a) (same_alarms p 1 refl ws) (same_threads 1 refl a)

  same_before_listeners : SameOn (kind 4) ws (watched_by_one p (threads_settled p ws))
  same_before_listeners =
      let a = all_awake (LateAlarms p) ws in
      let b = enough_awake 1 Threads a in
      same_trans (kind 4) ws a (watched_by_one p b) (same_alarms p 4 refl ws) (same_trans (kind 4) a b (watched_by_one p b) (same_threads 4 refl a) (same_watched p 4 refl b))

  -- where a thread of that list was woken, one of this list is, once its threads are settled
  a_thread : OneIsAwake Threads vs → OneIsAwake Threads (threads_settled p ws)
  a_thread h =
      let a = all_awake (LateAlarms p) ws in
      let b = threads_settled p ws in
      let here : has Threads b ≡ true = has_same Threads ws b (only_threads p ws) ∙ (sym (has_same Threads ws vs only) ∙ awake_has Threads vs h) in
      elim (has_either Threads b here) [ inl s ↦ one_is_awake Threads a s | inr w ↦ w ]

  dues_by : (b : Bool) → is_watched p (threads_settled p ws) ≡ b
      → (OneSleeps Dues vs → OneIsAwake Threads vs ⊎ OneIsAwake Dues vs ⊎ OneSleeps (Watchers p) vs)
      → count (kind 1) (cond b (threads_settled p ws) (enough_awake 1 Dues (threads_settled p ws))) ≤ count (kind 1) vs
  dues_by true e rule = more_count (kind 1) (threads_settled p ws) vs (along_same (kind 1) ws (threads_settled p ws) vs same_before_dues only)
  dues_by false e rule =
      let a = threads_settled p ws in
      let none = neither (list_any (is_awake Threads) a) (list_any (is_asleep (Watchers p)) a) e in
      let on : OnKind (kind 1) a vs = along_same (kind 1) ws a vs same_before_dues only in
      one_count Dues (kind 1) dues_within a vs on
      (λ s. elim (rule s) [
        | inl t ↦ absurd (never (list_any (is_awake Threads) a) none.0 (a_thread t))
        | inr (inl w) ↦ w
        | inr (inr x) ↦ absurd (never (list_any (is_asleep (Watchers p)) a) none.1 (slept_before (Watchers p) (kind 1) (watchers_within p) a vs on x))
      ])

  dues_fewest : (OneSleeps Dues vs → OneIsAwake Threads vs ⊎ OneIsAwake Dues vs ⊎ OneSleeps (Watchers p) vs)
      → count (kind 1) (settled_for_items items (Some p) ws) ≤ count (kind 1) vs
  dues_fewest rule =
      let a = threads_settled p ws in
      let b = watched_by_one p a in
      omega (arith, dues_by (is_watched p a) refl rule, same_count (kind 1) b (listened_to items p b) (same_listened items p 1 refl b))

  listeners_by : (b : Bool) → has Threads (watched_by_one p (threads_settled p ws)) ≡ b
      → (has Threads vs ≡ false → OneSleeps (Listeners p) vs → items ≤ count_awake (Listeners p) vs)
      → (has Threads vs ≡ false → OneSleeps Hearers vs → OneIsAwake Hearers vs ⊎ OneSleeps (HearWatchers p) vs)
      → let a = watched_by_one p (threads_settled p ws) in count (kind 4) (cond b a (heard_by_one p (enough_awake items (Listeners p) a))) ≤ count (kind 4) vs
  listeners_by true e rule heard =
      let a = watched_by_one p (threads_settled p ws) in more_count (kind 4) a vs (along_same (kind 4) ws a vs same_before_listeners only)
  listeners_by false e rule heard =
      let a = threads_settled p ws in
      let b = watched_by_one p a in
      let none : has Threads vs ≡ false =
      has_same Threads ws vs only ∙ (sym (has_same Threads ws b (only_trans ws a b (only_threads p ws) (only_watched p a))) ∙ e) in
      let on : OnKind (kind 4) b vs = along_same (kind 4) ws b vs same_before_listeners only in
      let d = enough_awake items (Listeners p) b in
      one_hears p b vs on (heard none) d (list_any (is_asleep (HearWatchers p)) d) refl
      (none_or_one (items - count_awake (Listeners p) b) (Listeners p) b)
      (enough_count items (Listeners p) (kind 4) (listeners_within p) b vs on (rule none))

  listeners_fewest : (has Threads vs ≡ false → OneSleeps (Listeners p) vs → items ≤ count_awake (Listeners p) vs)
      → (has Threads vs ≡ false → OneSleeps Hearers vs → OneIsAwake Hearers vs ⊎ OneSleeps (HearWatchers p) vs)
      → count (kind 4) (settled_for_items items (Some p) ws) ≤ count (kind 4) vs
  listeners_fewest rule heard = listeners_by (has Threads (watched_by_one p (threads_settled p ws))) refl rule heard

-- Room.
abbrev for_room : Bool → Bool → ℕ → List Waiter → List Waiter
for_room shut fits room ws =
    cond shut (all_awake RoomListeners (all_awake Producers ws)) (cond fits (room_listened_to room (enough_awake 1 Producers ws)) ws)

producers_by : (shut fits : Bool) (room : ℕ) (cs vs : List Waiter) → OnKind (kind 3) cs vs → (shut ≡ true → ¬ OneSleeps Producers vs)
    → (fits ≡ true → OneSleeps Producers vs → OneIsAwake Producers vs) → count (kind 3) (for_room shut fits room cs) ≤ count (kind 3) vs
producers_by true fits room cs vs on s r =
    let a = all_awake Producers cs in
    omega (
      arith,
      more_count (kind 3) a vs (all_on Producers (kind 3) cs vs on (is_false (list_any (is_asleep Producers) vs) (s refl))),
      same_count (kind 3) a (all_awake RoomListeners a) (same_all_room_listeners 3 refl a),
    )
producers_by false true room cs vs on s r =
    let a = enough_awake 1 Producers cs in
    omega (
      arith,
      one_count Producers (kind 3) producers_within cs vs on (r refl),
      same_count (kind 3) a (room_listened_to room a) (same_room_listened room 3 refl a),
    )
producers_by false false room cs vs on s r = more_count (kind 3) cs vs on

-- Listeners for room, of a list that was settled for its items.
module _ (room : ℕ) (ws cs vs : List Waiter) (only : OnlyWakes ws vs) (more : OnlyWakes ws cs) (same : SameOn (kind 5) ws cs) where
  all_room_listeners : (¬ OneSleeps RoomListeners vs) → count (kind 5) (all_awake RoomListeners (all_awake Producers cs)) ≤ count (kind 5) vs
  all_room_listeners rule =
      let a = all_awake Producers cs in
      let on : OnKind (kind 5) a vs = along_same (kind 5) ws a vs (same_trans (kind 5) ws cs a same (same_all_producers 5 refl cs)) only in
      more_count (kind 5) (all_awake RoomListeners a) vs (all_on RoomListeners (kind 5) a vs on (is_false (list_any (is_asleep RoomListeners) vs) rule))

  after_producers : OnKind (kind 5) (enough_awake 1 Producers cs) vs
  after_producers =
      let a = enough_awake 1 Producers cs in along_same (kind 5) ws a vs (same_trans (kind 5) ws cs a same (same_producers 5 refl cs)) only

  enough_room_listeners : (b : Bool) → has Producers (enough_awake 1 Producers cs) ≡ b
      → (has Producers vs ≡ false → OneSleeps RoomListeners vs → room ≤ count_awake RoomListeners vs)
      → let a = enough_awake 1 Producers cs in count (kind 5) (cond b a (enough_awake room RoomListeners a)) ≤ count (kind 5) vs
  enough_room_listeners true e rule = more_count (kind 5) (enough_awake 1 Producers cs) vs after_producers
  enough_room_listeners false e rule =
      let a = enough_awake 1 Producers cs in
      let none : has Producers vs ≡ false =
      has_same Producers ws vs only ∙ (sym (has_same Producers ws a (only_trans ws cs a more (only_enough 1 Producers cs))) ∙ e) in
      enough_count room RoomListeners (kind 5) room_listeners_within a vs after_producers (rule none)

  room_listeners_by : (shut fits : Bool) → (shut ≡ true → ¬ OneSleeps RoomListeners vs)
      → (fits ≡ true → has Producers vs ≡ false → OneSleeps RoomListeners vs → room ≤ count_awake RoomListeners vs)
      → count (kind 5) (for_room shut fits room cs) ≤ count (kind 5) vs
  room_listeners_by true fits s r = all_room_listeners (s refl)
  room_listeners_by false true s r = enough_room_listeners (has Producers (enough_awake 1 Producers cs)) refl (r refl)
  room_listeners_by false false s r = more_count (kind 5) cs vs (along_same (kind 5) ws cs vs same only)

fits_only : (a b : ℕ) → nat_lt a b ≡ true → a < b
fits_only a b h = grind (arith, nat_tests)

-- All kinds.
record ItemKinds (after vs : List Waiter) : Type 0 where
  threads : count (kind 0) after ≤ count (kind 0) vs
  dues : count (kind 1) after ≤ count (kind 1) vs
  alarms : count (kind 2) after ≤ count (kind 2) vs
  listeners : count (kind 4) after ≤ count (kind 4) vs

as_they_are : (k : ℕ) (ws vs : List Waiter) → OnlyWakes ws vs → count (kind k) ws ≤ count (kind k) vs
as_they_are k ws vs only = more_count (kind k) ws vs (along_same (kind k) ws ws vs (same_refl (kind k) ws) only)

item_kinds : (o : Option ℕ) (ws vs : List Waiter) → OnlyWakes ws vs → (stock : Stock) → IsSettled stock vs → stock.first ≡ o
    → ItemKinds (settled_for_items stock.items o ws) vs
item_kinds None ws vs only stock h e =
    record { threads = as_they_are 0 ws vs only; dues = as_they_are 1 ws vs only; alarms = as_they_are 2 ws vs only; listeners = as_they_are 4 ws vs only }
item_kinds (Some p) ws vs only stock h e =
    record {
      threads = threads_fewest stock.items p ws vs only (h.threads p e);
      dues = dues_fewest stock.items p ws vs only (h.watched p e);
      alarms = alarms_fewest stock.items p ws vs only (h.alarms p e);
      listeners = listeners_fewest stock.items p ws vs only (h.listeners p e) (h.heard p e);
    }

first_none : (o : Option ℕ) → is_none o ≡ true → o ≡ None
first_none None h = refl
first_none (Some p) h = absurd cc

fewest_by : (stock : Stock) (ws vs : List Waiter) (b : Bool) → is_over stock ≡ b → OnlyWakes ws vs → IsSettled stock vs
    → count_awake Everybody (cond b (all_awake Everybody ws) (settled_for_room stock (settled_for_items stock.items stock.first ws))) ≤ count_awake Everybody vs
fewest_by stock ws vs true e only h =
    let nobody : ¬ OneSleeps Everybody vs =
    elim (either stock.is_spent (stock.is_shut && is_none stock.first) e) [
      | inl spent ↦ h.spent spent
      | inr over ↦ let parts = both stock.is_shut (is_none stock.first) over in h.over parts.0 (first_none stock.first parts.1)
    ] in
    let on : OnKind anyone (all_awake Everybody ws) vs =
    all_on Everybody anyone ws vs (along_same anyone ws ws vs (same_refl anyone ws) only) (is_false (list_any (is_asleep Everybody) vs) nobody) in
    omega (arith, count_anyone (all_awake Everybody ws), count_anyone vs, more_count anyone (all_awake Everybody ws) vs on)
fewest_by stock ws vs false e only h =
    let items = settled_for_items stock.items stock.first ws in
    let after = settled_for_room stock items in
    let parts = item_kinds stock.first ws vs only stock h refl in
    let same : SameOn (kind 5) ws items = same_items 5 stock.items stock.first ws of_room_5 in
    let on : OnKind (kind 3) items vs = along_same (kind 3) ws items vs (same_items 3 stock.items stock.first ws of_room_3) only in
    let fits = nat_lt stock.items stock.bound in
    let left = stock.bound - stock.items in
    let room : count (kind 3) after ≤ count (kind 3) vs =
    producers_by stock.is_shut fits left items vs on h.shut (λ f. h.room (fits_only stock.items stock.bound f)) in
    let room_up : count (kind 5) after ≤ count (kind 5) vs =
    room_listeners_by left ws items vs only (only_items stock.items stock.first ws) same stock.is_shut fits h.shut_listeners
    (λ f n s. omega (arith, h.room_listeners (fits_only stock.items stock.bound f) n s)) in
    omega (
      arith,
      by_kinds after,
      by_kinds vs,
      parts.threads,
      parts.dues,
      parts.alarms,
      parts.listeners,
      room,
      room_up,
      same_count (kind 0) items after (same_room stock 0 refl refl items),
      same_count (kind 1) items after (same_room stock 1 refl refl items),
      same_count (kind 2) items after (same_room stock 2 refl refl items),
      same_count (kind 4) items after (same_room stock 4 refl refl items),
    )

pub fewest : (stock : Stock) (ws vs : List Waiter) → OnlyWakes ws vs → IsSettled stock vs → count_awake Everybody (settled stock ws) ≤ count_awake Everybody vs
fewest stock ws vs only h = fewest_by stock ws vs (is_over stock) refl only h

-- where no more are awake, nobody was woken
abbrev asleep_or : Waiter → Bool → Waiter
asleep_or v b = record { number = v.number; wants = v.wants; is_woken = b }

woken_already : (v : Waiter) → v.is_woken ≡ true → woken v ≡ v
woken_already v h = ap (λ (b : Bool). asleep_or v b) (sym h)

no_more_woken : (v w : Waiter) (n m : ℕ) (b : Bool) → v.is_woken ≡ b → w ≡ woken v → n ≤ m → cond (w.is_woken && true) 1 0 + m ≤ cond (v.is_woken && true) 1 0 + n → (w ≡ v) × (m ≤ n)
no_more_woken v w n m true e f l h = let g : w.is_woken ≡ true = ap (λ (x : Waiter). x.is_woken) f in (f ∙ woken_already v e, let k = rw (g, e) at h in omega (arith, k))
no_more_woken v w n m false e f l h = let g : w.is_woken ≡ true = ap (λ (x : Waiter). x.is_woken) f in absurd (let k = rw (g, e) at h in omega (arith, k, l))

no_more_by : (v w : Waiter) (n m : ℕ) → IsSameOrWoken v w → n ≤ m → cond (w.is_woken && true) 1 0 + m ≤ cond (v.is_woken && true) 1 0 + n → (w ≡ v) × (m ≤ n)
no_more_by v w n m (inl e) l h = (e, omega (arith, ap {B = ℕ} (λ (x : Waiter). cond (x.is_woken && true) 1 0) e, h))
no_more_by v w n m (inr e) l h = no_more_woken v w n m v.is_woken refl e l h

mono : (vs ws : List Waiter) → OnlyWakes vs ws → count_awake Everybody vs ≤ count_awake Everybody ws
mono vs ws o = omega (arith, count_anyone vs, count_anyone ws, more_count anyone vs ws (along_same anyone vs vs ws (same_refl anyone vs) o))

no_more : (vs ws : List Waiter) → OnlyWakes vs ws → count_awake Everybody ws ≤ count_awake Everybody vs → ws ≡ vs
no_more [] [] o l = refl
no_more [] (w ∷ ws) o l = absurd o
no_more (v ∷ vs) [] o l = absurd o
no_more (v ∷ vs) (w ∷ ws) o l =
    let parts = no_more_by v w (count_awake Everybody vs) (count_awake Everybody ws) o.0 (mono vs ws o.1) l in
    let rest : ws ≡ vs = no_more vs ws o.1 parts.1 in
    let here : w ≡ v = parts.0 in cc

pub quiet : (stock : Stock) (ws : List Waiter) → IsSettled stock ws → settled stock ws ≡ ws
quiet stock ws h = no_more ws (settled stock ws) (only_settled stock ws) (fewest stock ws ws (only_refl ws) h)
