-- Waking changes nobody's number or wants, and nobody falls asleep.
use Rattle.std.proofs.Common.{◌≡◌, ℕ, zero, suc, ◌+◌, ◌-◌, ◌≤◌, List, [], ◌∷◌, Bool, true, false, not, ◌&&◌, ◌||◌, cond, Option, Some, None, nat_lt, ◌⊎◌, inl, inr, refl, sym, ◌∙◌, ap, subst, arith}
use Rattle.std.specs.List.{list_any}
use Rattle.wait_list.specs.declared.group.Group.{Group}
use Rattle.wait_list.specs.declared.group.Group.TheVariants.{Threads, Listeners, Hearers, HearWatchers, Dues, LateAlarms, Producers, RoomListeners, Everybody}
use Rattle.wait_list.specs.declared.waiter.Waiter.{Waiter}
use Rattle.wait_list.specs.declared.stock.Stock.{Stock}
use Rattle.wait_list.specs.Waiters.{is_in, is_asleep, is_awake, OneSleeps, OneIsAwake, has, count_awake, woken, numbers}
use Rattle.wait_list.specs.Settled.{woken_first, enough_awake, all_awake, awake_if_in, is_watched, watched_by_one, heard_by_one, listened_to, room_listened_to, threads_settled, settled_for_items, settled_for_room, is_over, settled, IsSameOrWoken, OnlyWakes}

pub both : (a b : Bool) → (a && b) ≡ true → (a ≡ true) × (b ≡ true)
both true b h = (refl, h)
both false b h = (absurd cc, absurd cc)

pub either : (a b : Bool) → (a || b) ≡ true → (a ≡ true) ⊎ (b ≡ true)
either true b h = inl refl
either false b h = inr h

pub left_or : (a b : Bool) → a ≡ true → (a || b) ≡ true
left_or true b h = refl
left_or false b h = absurd cc

pub right_or : (a b : Bool) → b ≡ true → (a || b) ≡ true
right_or true b h = refl
right_or false b h = h

-- The order: more are awake.
pub same_trans : (u v w : Waiter) → IsSameOrWoken u v → IsSameOrWoken v w → IsSameOrWoken u w
same_trans u v w (inl e) (inl f) = inl (f ∙ e)
same_trans u v w (inl e) (inr f) = inr (f ∙ ap woken e)
same_trans u v w (inr e) (inl f) = inr (f ∙ e)
same_trans u v w (inr e) (inr f) = inr (f ∙ ap woken e)

pub only_refl : (ws : List Waiter) → OnlyWakes ws ws
only_refl [] = tt
only_refl (w ∷ ws) = (inl refl, only_refl ws)

pub only_trans : (us vs ws : List Waiter) → OnlyWakes us vs → OnlyWakes vs ws → OnlyWakes us ws
only_trans [] [] [] h k = tt
only_trans [] [] (w ∷ ws) h k = absurd k
only_trans [] (v ∷ vs) ws h k = absurd h
only_trans (u ∷ us) [] ws h k = absurd h
only_trans (u ∷ us) (v ∷ vs) [] h k = absurd k
only_trans (u ∷ us) (v ∷ vs) (w ∷ ws) h k = (same_trans u v w h.0 k.0, only_trans us vs ws h.1 k.1)

pub only_first : (n : ℕ) (g : Group) (ws : List Waiter) → OnlyWakes ws (woken_first n g ws)
only_first n g [] = tt
only_first zero g (w ∷ ws) = (inl refl, only_refl ws)
only_first (suc n) g (w ∷ ws) =
    elim (is_asleep g w) as (λ b. OnlyWakes (w ∷ ws) (cond b (woken w ∷ woken_first n g ws) (w ∷ woken_first (suc n) g ws))) [
      | true ↦ (inr refl, only_first n g ws)
      | false ↦ (inl refl, only_first (suc n) g ws)
    ]

pub only_enough : (n : ℕ) (g : Group) (ws : List Waiter) → OnlyWakes ws (enough_awake n g ws)
only_enough n g ws = only_first (n - count_awake g ws) g ws

same_if_in : (g : Group) (w : Waiter) → IsSameOrWoken w (awake_if_in g w)
same_if_in g w = elim (is_asleep g w) as (λ b. IsSameOrWoken w (cond b (woken w) w)) [ true ↦ inr refl | false ↦ inl refl ]

pub only_all : (g : Group) (ws : List Waiter) → OnlyWakes ws (all_awake g ws)
only_all g [] = tt
only_all g (w ∷ ws) = (same_if_in g w, only_all g ws)

pub only_threads : (p : ℕ) (ws : List Waiter) → OnlyWakes ws (threads_settled p ws)
only_threads p ws =
    let a = all_awake (LateAlarms p) ws in only_trans ws a (enough_awake 1 Threads a) (only_all (LateAlarms p) ws) (only_enough 1 Threads a)

pub only_watched : (p : ℕ) (ws : List Waiter) → OnlyWakes ws (watched_by_one p ws)
only_watched p ws =
    elim (is_watched p ws) as (λ b. OnlyWakes ws (cond b ws (enough_awake 1 Dues ws))) [ true ↦ only_refl ws | false ↦ only_enough 1 Dues ws ]

pub only_heard : (p : ℕ) (ws : List Waiter) → OnlyWakes ws (heard_by_one p ws)
only_heard p ws =
    elim (list_any (is_asleep (HearWatchers p)) ws) as (λ b. OnlyWakes ws (cond b ws (enough_awake 1 Hearers ws))) [
      | true ↦ only_refl ws
      | false ↦ only_enough 1 Hearers ws
    ]

pub only_listened : (items p : ℕ) (ws : List Waiter) → OnlyWakes ws (listened_to items p ws)
only_listened items p ws =
    let a = enough_awake items (Listeners p) ws in
    elim (has Threads ws) as (λ b. OnlyWakes ws (cond b ws (heard_by_one p a))) [
      | true ↦ only_refl ws
      | false ↦ only_trans ws a (heard_by_one p a) (only_enough items (Listeners p) ws) (only_heard p a)
    ]

pub only_items : (items : ℕ) (o : Option ℕ) (ws : List Waiter) → OnlyWakes ws (settled_for_items items o ws)
only_items items None ws = only_refl ws
only_items items (Some p) ws =
    let a = threads_settled p ws in
    let b = watched_by_one p a in
    let c = listened_to items p b in
    only_trans ws a c (only_threads p ws) (only_trans a b c (only_watched p a) (only_listened items p b))

pub only_room_listened : (room : ℕ) (ws : List Waiter) → OnlyWakes ws (room_listened_to room ws)
only_room_listened room ws =
    elim (has Producers ws) as (λ b. OnlyWakes ws (cond b ws (enough_awake room RoomListeners ws))) [
      | true ↦ only_refl ws
      | false ↦ only_enough room RoomListeners ws
    ]

pub only_shut : (ws : List Waiter) → OnlyWakes ws (all_awake RoomListeners (all_awake Producers ws))
only_shut ws = let a = all_awake Producers ws in only_trans ws a (all_awake RoomListeners a) (only_all Producers ws) (only_all RoomListeners a)

pub only_for_room : (room : ℕ) (ws : List Waiter) → OnlyWakes ws (room_listened_to room (enough_awake 1 Producers ws))
only_for_room room ws =
    let a = enough_awake 1 Producers ws in only_trans ws a (room_listened_to room a) (only_enough 1 Producers ws) (only_room_listened room a)

pub only_room : (stock : Stock) (ws : List Waiter) → OnlyWakes ws (settled_for_room stock ws)
only_room stock ws =
    let room = room_listened_to (stock.bound - stock.items) (enough_awake 1 Producers ws) in
    elim stock.is_shut as (λ b. OnlyWakes ws (cond b (all_awake RoomListeners (all_awake Producers ws)) (cond (nat_lt stock.items stock.bound) room ws))) [
      | true ↦ only_shut ws
      | false ↦ elim (nat_lt stock.items stock.bound) as (λ b. OnlyWakes ws (cond b room ws)) [
        | true ↦ only_for_room (stock.bound - stock.items) ws
        | false ↦ only_refl ws
      ]
    ]

pub only_settled : (stock : Stock) (ws : List Waiter) → OnlyWakes ws (settled stock ws)
only_settled stock ws =
    let a = settled_for_items stock.items stock.first ws in
    elim (is_over stock) as (λ b. OnlyWakes ws (cond b (all_awake Everybody ws) (settled_for_room stock a))) [
      | true ↦ only_all Everybody ws
      | false ↦ only_trans ws a (settled_for_room stock a) (only_items stock.items stock.first ws) (only_room stock a)
    ]

pub same_number : (v w : Waiter) → IsSameOrWoken v w → w.number ≡ v.number
same_number v w (inl e) = ap (λ (x : Waiter). x.number) e
same_number v w (inr e) = ap (λ (x : Waiter). x.number) e

pub same_numbers : (vs ws : List Waiter) → OnlyWakes vs ws → numbers ws ≡ numbers vs
same_numbers [] [] h = refl
same_numbers [] (w ∷ ws) h = absurd h
same_numbers (v ∷ vs) [] h = absurd h
same_numbers (v ∷ vs) (w ∷ ws) h = let here = same_number v w h.0 in let rest = same_numbers vs ws h.1 in cc

-- One who is awake.
awake_stays : (g : Group) (v w : Waiter) → IsSameOrWoken v w → is_awake g v ≡ true → is_awake g w ≡ true
awake_stays g v w (inl e) h = subst (λ (x : Waiter). is_awake g x ≡ true) (sym e) h
awake_stays g v w (inr e) h = subst (λ (x : Waiter). is_awake g x ≡ true) (sym e) (both v.is_woken (is_in g v.wants) h).1

pub one_awake_stays : (g : Group) (vs ws : List Waiter) → OnlyWakes vs ws → OneIsAwake g vs → OneIsAwake g ws
one_awake_stays g [] [] h k = k
one_awake_stays g [] (w ∷ ws) h k = absurd h
one_awake_stays g (v ∷ vs) [] h k = absurd h
one_awake_stays g (v ∷ vs) (w ∷ ws) h k =
    elim (either (is_awake g v) (list_any (is_awake g) vs) k) [
      | inl here ↦ left_or (is_awake g w) (list_any (is_awake g) ws) (awake_stays g v w h.0 here)
      | inr there ↦ right_or (is_awake g w) (list_any (is_awake g) ws) (one_awake_stays g vs ws h.1 there)
    ]

-- One who sleeps slept before.
pub asleep_before : (g : Group) (v w : Waiter) → IsSameOrWoken v w → is_asleep g w ≡ true → is_asleep g v ≡ true
asleep_before g v w (inl e) h = subst (λ (x : Waiter). is_asleep g x ≡ true) e h
asleep_before g v w (inr e) h = let never : false ≡ true = subst (λ (x : Waiter). is_asleep g x ≡ true) e h in absurd cc

pub one_slept : (g : Group) (vs ws : List Waiter) → OnlyWakes vs ws → OneSleeps g ws → OneSleeps g vs
one_slept g [] [] h k = k
one_slept g [] (w ∷ ws) h k = absurd h
one_slept g (v ∷ vs) [] h k = absurd h
one_slept g (v ∷ vs) (w ∷ ws) h k =
    elim (either (is_asleep g w) (list_any (is_asleep g) ws) k) [
      | inl here ↦ left_or (is_asleep g v) (list_any (is_asleep g) vs) (asleep_before g v w h.0 here)
      | inr there ↦ right_or (is_asleep g v) (list_any (is_asleep g) vs) (one_slept g vs ws h.1 there)
    ]

-- One who slept sleeps still, or is awake.
pub asleep_or_awake : (g : Group) (v w : Waiter) → IsSameOrWoken v w → is_asleep g v ≡ true → (is_asleep g w ≡ true) ⊎ (is_awake g w ≡ true)
asleep_or_awake g v w (inl e) h = inl (subst (λ (x : Waiter). is_asleep g x ≡ true) (sym e) h)
asleep_or_awake g v w (inr e) h = inr (subst (λ (x : Waiter). is_awake g x ≡ true) (sym e) (both (not v.is_woken) (is_in g v.wants) h).1)

pub one_sleeps_or_is_awake : (g : Group) (vs ws : List Waiter) → OnlyWakes vs ws → OneSleeps g vs → OneSleeps g ws ⊎ OneIsAwake g ws
one_sleeps_or_is_awake g [] [] h k = inl k
one_sleeps_or_is_awake g [] (w ∷ ws) h k = absurd h
one_sleeps_or_is_awake g (v ∷ vs) [] h k = absurd h
one_sleeps_or_is_awake g (v ∷ vs) (w ∷ ws) h k =
    elim (either (is_asleep g v) (list_any (is_asleep g) vs) k) [
      | inl here ↦ elim (asleep_or_awake g v w h.0 here) [
        | inl s ↦ inl (left_or (is_asleep g w) (list_any (is_asleep g) ws) s)
        | inr a ↦ inr (left_or (is_awake g w) (list_any (is_awake g) ws) a)
      ]
      | inr there ↦ elim (one_sleeps_or_is_awake g vs ws h.1 there) [
        | inl s ↦ inl (right_or (is_asleep g w) (list_any (is_asleep g) ws) s)
        | inr a ↦ inr (right_or (is_awake g w) (list_any (is_awake g) ws) a)
      ]
    ]

-- one of a group is one of a group that has it
pub awake_in_larger : (g k : Group) → ((w : Waiter) → is_awake g w ≡ true → is_awake k w ≡ true) → (ws : List Waiter) → OneIsAwake g ws → OneIsAwake k ws
awake_in_larger g k f [] h = h
awake_in_larger g k f (w ∷ ws) h =
    elim (either (is_awake g w) (list_any (is_awake g) ws) h) [
      | inl here ↦ left_or (is_awake k w) (list_any (is_awake k) ws) (f w here)
      | inr there ↦ right_or (is_awake k w) (list_any (is_awake k) ws) (awake_in_larger g k f ws there)
    ]

pub asleep_in_larger : (g k : Group) → ((w : Waiter) → is_asleep g w ≡ true → is_asleep k w ≡ true) → (ws : List Waiter) → OneSleeps g ws → OneSleeps k ws
asleep_in_larger g k f [] h = h
asleep_in_larger g k f (w ∷ ws) h =
    elim (either (is_asleep g w) (list_any (is_asleep g) ws) h) [
      | inl here ↦ left_or (is_asleep k w) (list_any (is_asleep k) ws) (f w here)
      | inr there ↦ right_or (is_asleep k w) (list_any (is_asleep k) ws) (asleep_in_larger g k f ws there)
    ]

-- What each way of waking comes to.
if_so_awake : (g : Group) (w : Waiter) (b : Bool) → is_asleep g w ≡ b → is_asleep g (cond b (woken w) w) ≡ false
if_so_awake g w true h = refl
if_so_awake g w false h = h

awake_if_in_awake : (g : Group) (w : Waiter) → is_asleep g (awake_if_in g w) ≡ false
awake_if_in_awake g w = if_so_awake g w (is_asleep g w) refl

pub all_awake_none : (g : Group) (ws : List Waiter) → list_any (is_asleep g) (all_awake g ws) ≡ false
all_awake_none g [] = refl
all_awake_none g (w ∷ ws) =
    subst (λ (b : Bool). (b || list_any (is_asleep g) (all_awake g ws)) ≡ false) (sym (awake_if_in_awake g w)) (all_awake_none g ws)

-- Of a group so many are awake, or nobody of it sleeps.
not_awake : (b i : Bool) → not b ≡ true → (b && i) ≡ false
not_awake true i h = absurd cc
not_awake false i h = refl

awake_if_asleep : (g : Group) (w : Waiter) → is_asleep g w ≡ true → (is_awake g w ≡ false) × (is_awake g (woken w) ≡ true)
awake_if_asleep g w h = let parts = both (not w.is_woken) (is_in g w.wants) h in (not_awake w.is_woken (is_in g w.wants) parts.0, parts.1)

first_by : (n : ℕ) (g : Group) (w : Waiter) (ws : List Waiter) (b : Bool) → is_asleep g w ≡ b
    → (OneSleeps g (woken_first n g ws) → count_awake g ws + n ≤ count_awake g (woken_first n g ws))
    → (OneSleeps g (woken_first (suc n) g ws) → count_awake g ws + suc n ≤ count_awake g (woken_first (suc n) g ws))
    → OneSleeps g (cond b (woken w ∷ woken_first n g ws) (w ∷ woken_first (suc n) g ws))
    → count_awake g (w ∷ ws) + suc n ≤ count_awake g (cond b (woken w ∷ woken_first n g ws) (w ∷ woken_first (suc n) g ws))
first_by n g w ws true e f k h = let parts = awake_if_asleep g w e in let now = parts.1 in rw (parts.0, now) (omega (arith, f h))
first_by n g w ws false e f k h =
    let rest : OneSleeps g (woken_first (suc n) g ws) = subst (λ (b : Bool). (b || list_any (is_asleep g) (woken_first (suc n) g ws)) ≡ true) e h in
    omega (arith, k rest)

first_are_awake : (n : ℕ) (g : Group) (ws : List Waiter) → OneSleeps g (woken_first n g ws) → count_awake g ws + n ≤ count_awake g (woken_first n g ws)
first_are_awake n g [] h = absurd cc
first_are_awake zero g (w ∷ ws) h = omega arith
first_are_awake (suc n) g (w ∷ ws) h = first_by n g w ws (is_asleep g w) refl (first_are_awake n g ws) (first_are_awake (suc n) g ws) h

-- Waking the first of a group wakes nobody, or one of it is awake.
none_or_one_by : (n : ℕ) (g : Group) (w : Waiter) (ws : List Waiter) (b : Bool) → is_asleep g w ≡ b
    → (woken_first (suc n) g ws ≡ ws) ⊎ OneIsAwake g (woken_first (suc n) g ws)
    → let after = cond b (woken w ∷ woken_first n g ws) (w ∷ woken_first (suc n) g ws) in (after ≡ w ∷ ws) ⊎ OneIsAwake g after
none_or_one_by n g w ws true e h = inr (left_or (is_awake g (woken w)) (list_any (is_awake g) (woken_first n g ws)) (awake_if_asleep g w e).1)
none_or_one_by n g w ws false e (inl f) = inl (ap (λ (vs : List Waiter). w ∷ vs) f)
none_or_one_by n g w ws false e (inr a) = inr (right_or (is_awake g w) (list_any (is_awake g) (woken_first (suc n) g ws)) a)

pub none_or_one : (n : ℕ) (g : Group) (ws : List Waiter) → (woken_first n g ws ≡ ws) ⊎ OneIsAwake g (woken_first n g ws)
none_or_one n g [] = inl refl
none_or_one zero g (w ∷ ws) = inl refl
none_or_one (suc n) g (w ∷ ws) = none_or_one_by n g w ws (is_asleep g w) refl (none_or_one (suc n) g ws)

pub enough_are_awake : (n : ℕ) (g : Group) (ws : List Waiter) → OneSleeps g (enough_awake n g ws) → n ≤ count_awake g (enough_awake n g ws)
enough_are_awake n g ws h = omega (arith, first_are_awake (n - count_awake g ws) g ws h)

-- One is awake where they count one or more.
counts_by : (b : Bool) (g : Group) (ws : List Waiter) → (1 ≤ count_awake g ws → OneIsAwake g ws) → 1 ≤ cond b 1 0 + count_awake g ws
    → (b || list_any (is_awake g) ws) ≡ true
counts_by true g ws f h = refl
counts_by false g ws f h = f (omega (arith, h))

one_by : (b : Bool) (g : Group) (ws : List Waiter) → (OneIsAwake g ws → 1 ≤ count_awake g ws) → (b || list_any (is_awake g) ws) ≡ true
    → 1 ≤ cond b 1 0 + count_awake g ws
one_by true g ws f h = omega arith
one_by false g ws f h = omega (arith, f h)

pub counts_one : (g : Group) (ws : List Waiter) → 1 ≤ count_awake g ws → OneIsAwake g ws
counts_one g [] h = absurd (omega (arith, h))
counts_one g (w ∷ ws) h = counts_by (is_awake g w) g ws (counts_one g ws) h

pub one_counts : (g : Group) (ws : List Waiter) → OneIsAwake g ws → 1 ≤ count_awake g ws
one_counts g [] h = absurd cc
one_counts g (w ∷ ws) h = one_by (is_awake g w) g ws (one_counts g ws) h

pub one_is_awake : (g : Group) (ws : List Waiter) → OneSleeps g (enough_awake 1 g ws) → OneIsAwake g (enough_awake 1 g ws)
one_is_awake g ws h = counts_one g (enough_awake 1 g ws) (enough_are_awake 1 g ws h)

-- The number of those awake doesn't fall.
one_if_more : (a b : Bool) → (a ≡ true → b ≡ true) → cond a 1 0 ≤ cond b 1 0
one_if_more true true f = omega arith
one_if_more true false f = absurd (let never : false ≡ true = f refl in cc)
one_if_more false b f = omega arith

pub count_grows : (g : Group) (vs ws : List Waiter) → OnlyWakes vs ws → count_awake g vs ≤ count_awake g ws
count_grows g [] [] h = omega arith
count_grows g [] (w ∷ ws) h = absurd h
count_grows g (v ∷ vs) [] h = absurd h
count_grows g (v ∷ vs) (w ∷ ws) h =
    omega (arith, one_if_more (is_awake g v) (is_awake g w) (awake_stays g v w h.0), count_grows g vs ws h.1)

-- Who is in the list, asleep or awake.
has_at_one : (g : Group) (v w : Waiter) → IsSameOrWoken v w → is_in g w.wants ≡ is_in g v.wants
has_at_one g v w (inl e) = ap (λ (x : Waiter). is_in g x.wants) e
has_at_one g v w (inr e) = ap (λ (x : Waiter). is_in g x.wants) e

pub has_same : (g : Group) (vs ws : List Waiter) → OnlyWakes vs ws → has g ws ≡ has g vs
has_same g [] [] h = refl
has_same g [] (w ∷ ws) h = absurd h
has_same g (v ∷ vs) [] h = absurd h
has_same g (v ∷ vs) (w ∷ ws) h = let here = has_at_one g v w h.0 in let rest = has_same g vs ws h.1 in rw (here, rest) refl

pub awake_has : (g : Group) (ws : List Waiter) → OneIsAwake g ws → has g ws ≡ true
awake_has g [] h = h
awake_has g (w ∷ ws) h =
    elim (either (is_awake g w) (list_any (is_awake g) ws) h) [
      | inl here ↦ left_or (is_in g w.wants) (has g ws) (both w.is_woken (is_in g w.wants) here).1
      | inr there ↦ right_or (is_in g w.wants) (has g ws) (awake_has g ws there)
    ]

asleep_if_not_awake : (b i : Bool) → i ≡ true → ((not b && i) ≡ true) ⊎ ((b && i) ≡ true)
asleep_if_not_awake true i h = inr h
asleep_if_not_awake false i h = inl h

pub has_either : (g : Group) (ws : List Waiter) → has g ws ≡ true → OneSleeps g ws ⊎ OneIsAwake g ws
has_either g [] h = inl h
has_either g (w ∷ ws) h =
    elim (either (is_in g w.wants) (has g ws) h) [
      | inl here ↦ elim (asleep_if_not_awake w.is_woken (is_in g w.wants) here) [
        | inl s ↦ inl (left_or (is_asleep g w) (list_any (is_asleep g) ws) s)
        | inr a ↦ inr (left_or (is_awake g w) (list_any (is_awake g) ws) a)
      ]
      | inr there ↦ elim (has_either g ws there) [
        | inl s ↦ inl (right_or (is_asleep g w) (list_any (is_asleep g) ws) s)
        | inr a ↦ inr (right_or (is_awake g w) (list_any (is_awake g) ws) a)
      ]
    ]
