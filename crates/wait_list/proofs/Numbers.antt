-- The numbers of those who wait.
use Rattle.std.proofs.Common.{◌≡◌, ℕ, zero, suc, ◌<◌, ◌≤◌, List, [], ◌∷◌, ◌++◌, length, get_or, Bool, true, false, ◌||◌, ◌&&◌, ◌==◌, cond, length-append, refl, sym, ap, subst, arith, eqb, inl, inr}
use Rattle.std.specs.List.{list_any, AllByRecursion, remove, IsDistinct}
use Rattle.std.proofs.lemmas.Map.Steps.{length-le_from_distinct_below}
use Rattle.std.proofs.Math.Bool.{and-false, or-true}
use Rattle.std.proofs.lemmas.Bool.{eq-eqb}
use Rattle.std.proofs.lemmas.Bool.Decides.{eqb_tells, nat_tests}
use Rattle.wait_list.specs.declared.waiter.Waiter.{Waiter}
use Rattle.wait_list.specs.Waiters.{numbers, has_number, is_woken_at, AreApart, AreWaiters, without}
use Rattle.wait_list.proofs.FirstOnes.{neither}

-- Apart, as the library says it.
none_equal : (n : ℕ) (ns : List ℕ) → list_any (λ m. n == m) ns ≡ false → AllByRecursion (λ m. eqb n m ≡ false) ns
none_equal n [] h = tt
none_equal n (m ∷ ns) h = let both = neither (n == m) (list_any (λ k. n == k) ns) h in (both.0, none_equal n ns both.1)

distinct : (ns : List ℕ) → AreApart ns → IsDistinct eqb ns
unfolding IsDistinct
distinct [] h = tt
distinct (n ∷ ns) h = (none_equal n ns h.0, distinct ns h.1)

below_each : (ns : List ℕ) → AllByRecursion (λ n. n < 64) ns → (q : ℕ) → list_any (eqb q) ns ≡ true → q < 64
below_each [] h q e = absurd cc
below_each (n ∷ ns) h q e =
    elim (eqb_tells q n) [
      | inl same ↦ subst (λ (k : ℕ). k < 64) (sym same.1) h.0
      | inr other ↦ below_each ns h.1 q (subst (λ (b : Bool). (b || list_any (eqb q) ns) ≡ true) other.0 e)
    ]

-- no more than 64 wait
pub few : (ns : List ℕ) → AllByRecursion (λ n. n < 64) ns → AreApart ns → length ns ≤ 64
few ns below apart = length-le_from_distinct_below ns 64 (distinct ns apart) (below_each ns below)

other_way : (a b : ℕ) → (a == b) ≡ false → (b == a) ≡ false
other_way a b h = grind (arith, nat_tests)

none_in_both : (m : ℕ) (ns : List ℕ) (n : ℕ) → list_any (λ k. m == k) ns ≡ false → (m == n) ≡ false → list_any (λ k. m == k) (ns ++ n ∷ []) ≡ false
none_in_both m [] n h e = rw e refl
none_in_both m (k ∷ ns) n h e =
    let both = neither (m == k) (list_any (λ j. m == j) ns) h in
    let here : (m == k) ≡ false = both.0 in
    rw here (none_in_both m ns n both.1 e)

-- one more
apart_push : (ns : List ℕ) (n : ℕ) → AreApart ns → list_any (λ m. n == m) ns ≡ false → AreApart (ns ++ n ∷ [])
apart_push [] n h none = (refl, tt)
apart_push (m ∷ ns) n h none =
    let both = neither (n == m) (list_any (λ k. n == k) ns) none in
    let other : (m == n) ≡ false = other_way n m both.0 in
    (none_in_both m ns n h.0 other, apart_push ns n h.1 both.1)

below_push : (ns : List ℕ) (n : ℕ) → AllByRecursion (λ k. k < 64) ns → n < 64 → AllByRecursion (λ k. k < 64) (ns ++ n ∷ [])
below_push [] n h l = (l, tt)
below_push (m ∷ ns) n h l = (h.0, below_push ns n h.1 l)

numbers_push : (ws : List Waiter) (w : Waiter) → numbers (ws ++ w ∷ []) ≡ numbers ws ++ w.number ∷ []
numbers_push [] w = refl
numbers_push (v ∷ ws) w = ap (λ (ns : List ℕ). v.number ∷ ns) (numbers_push ws w)

pub length_numbers : (ws : List Waiter) → length (numbers ws) ≡ length ws
length_numbers [] = refl
length_numbers (w ∷ ws) = ap suc (length_numbers ws)

pub are_waiters_push : (ws : List Waiter) (w : Waiter) → AreWaiters ws → w.number < 64 → has_number w.number ws ≡ false → AreWaiters (ws ++ w ∷ [])
are_waiters_push ws w are l none =
    record {
      below = subst (λ (ns : List ℕ). AllByRecursion (λ k. k < 64) ns) (sym (numbers_push ws w)) (below_push (numbers ws) w.number are.below l);
      apart = subst AreApart (sym (numbers_push ws w)) (apart_push (numbers ws) w.number are.apart none);
    }

-- there is room for one more
pub room_for_one : (ws : List Waiter) (n : ℕ) → AreWaiters ws → n < 64 → has_number n ws ≡ false → length ws < 64
room_for_one ws n are l none =
    let more : length (numbers ws ++ n ∷ []) ≤ 64 = few (numbers ws ++ n ∷ []) (below_push (numbers ws) n are.below l) (apart_push (numbers ws) n are.apart none) in
    omega (arith, more, length-append (numbers ws) (n ∷ []), length_numbers ws)

-- one is there
pub has_at : (n : ℕ) (ws : List Waiter) (i : ℕ) (d : Waiter) → i < length ws → (get_or ws i d).number ≡ n → has_number n ws ≡ true
has_at n [] i d l e = absurd (omega arith)
has_at n (w ∷ ws) zero d l e = let same : (n == w.number) ≡ true = eq-eqb n w.number (sym e) in rw same refl
has_at n (w ∷ ws) (suc i) d l e = let h : has_number n ws ≡ true = has_at n ws i d (omega arith) e in rw (h, or-true) refl

-- the number that one has is below 64
pub below_at : (ws : List Waiter) (i : ℕ) (d : Waiter) → AllByRecursion (λ k. k < 64) (numbers ws) → i < length ws → (get_or ws i d).number < 64
below_at [] i d h l = absurd (omega arith)
below_at (w ∷ ws) zero d h l = h.0
below_at (w ∷ ws) (suc i) d h l = below_at ws i d h.1 (omega arith)

-- The list without one.
differs_at : (n : ℕ) (ws : List Waiter) (i : ℕ) (d : Waiter) → list_any (λ k. n == k) (numbers ws) ≡ false → i < length ws → (n == (get_or ws i d).number) ≡ false
differs_at n [] i d h l = absurd (omega arith)
differs_at n (w ∷ ws) zero d h l = (neither (n == w.number) (list_any (λ k. n == k) (numbers ws)) h).0
differs_at n (w ∷ ws) (suc i) d h l = differs_at n ws i d (neither (n == w.number) (list_any (λ k. n == k) (numbers ws)) h).1 (omega arith)

apart_from_head : (w : Waiter) (ws : List Waiter) (i : ℕ) (d : Waiter) → AreApart (numbers (w ∷ ws)) → i < length ws → ((get_or ws i d).number == w.number) ≡ false
apart_from_head w ws i d h l = other_way w.number (get_or ws i d).number (differs_at w.number ws i d h.0 l)

pub without_at : (ws : List Waiter) (i : ℕ) (d : Waiter) → AreApart (numbers ws) → i < length ws → without (get_or ws i d).number ws ≡ remove ws i
without_at [] i d h l = absurd (omega arith)
without_at (w ∷ ws) zero d h l = let yes : (w.number == w.number) ≡ true = eq-eqb w.number w.number refl in rw yes refl
without_at (w ∷ ws) (suc i) d h l =
    let no : ((get_or ws i d).number == w.number) ≡ false = apart_from_head w ws i d h (omega arith) in
    rw no (ap (λ (vs : List Waiter). w ∷ vs) (without_at ws i d h.1 (omega arith)))

first_alone : (b : Bool) → ((b && true) || false) ≡ b
first_alone true = refl
first_alone false = refl

pub not_woken_none : (n : ℕ) (ws : List Waiter) → has_number n ws ≡ false → is_woken_at n ws ≡ false
not_woken_none n [] h = refl
not_woken_none n (w ∷ ws) h =
    let both = neither (n == w.number) (has_number n ws) h in
    let no : (n == w.number) ≡ false = both.0 in
    rw (no, and-false) (not_woken_none n ws both.1)

pub woken_at : (ws : List Waiter) (i : ℕ) (d : Waiter) → AreApart (numbers ws) → i < length ws → is_woken_at (get_or ws i d).number ws ≡ (get_or ws i d).is_woken
woken_at [] i d h l = absurd (omega arith)
woken_at (w ∷ ws) zero d h l =
    let yes : (w.number == w.number) ≡ true = eq-eqb w.number w.number refl in
    let none : is_woken_at w.number ws ≡ false = not_woken_none w.number ws h.0 in
    rw (yes, none) (first_alone w.is_woken)
woken_at (w ∷ ws) (suc i) d h l =
    let no : ((get_or ws i d).number == w.number) ≡ false = apart_from_head w ws i d h (omega arith) in
    rw (no, and-false) (woken_at ws i d h.1 (omega arith))

pub without_none : (n : ℕ) (ws : List Waiter) → has_number n ws ≡ false → without n ws ≡ ws
without_none n [] h = refl
without_none n (w ∷ ws) h =
    let both = neither (n == w.number) (has_number n ws) h in
    let no : (n == w.number) ≡ false = both.0 in
    rw no (ap (λ (vs : List Waiter). w ∷ vs) (without_none n ws both.1))

has_other : (m n : ℕ) (ws : List Waiter) → has_number m ws ≡ false → has_number m (without n ws) ≡ false
has_other m n [] h = refl
has_other m n (w ∷ ws) h =
    let both = neither (m == w.number) (has_number m ws) h in
    let no : (m == w.number) ≡ false = both.0 in
    elim (n == w.number) as (λ b. has_number m (cond b ws (w ∷ without n ws)) ≡ false) [
      | true ↦ both.1
      | false ↦ rw no (has_other m n ws both.1)
    ]

pub has_not_without : (n : ℕ) (ws : List Waiter) → AreApart (numbers ws) → has_number n (without n ws) ≡ false
has_not_without n [] h = refl
has_not_without n (w ∷ ws) h =
    elim (eqb_tells n w.number) [
      | inl same ↦ let equal : (n == w.number) ≡ true = same.0 in rw equal (subst (λ (k : ℕ). has_number k ws ≡ false) (sym same.1) h.0)
      | inr other ↦ let differs : (n == w.number) ≡ false = other.0 in rw (differs, differs) (has_not_without n ws h.1)
    ]

apart_without : (n : ℕ) (ws : List Waiter) → AreApart (numbers ws) → AreApart (numbers (without n ws))
apart_without n [] h = tt
apart_without n (w ∷ ws) h =
    elim (n == w.number) as (λ b. AreApart (numbers (cond b ws (w ∷ without n ws)))) [
      | true ↦ h.1
      | false ↦ (has_other w.number n ws h.0, apart_without n ws h.1)
    ]

below_without : (n : ℕ) (ws : List Waiter) → AllByRecursion (λ k. k < 64) (numbers ws) → AllByRecursion (λ k. k < 64) (numbers (without n ws))
below_without n [] h = tt
below_without n (w ∷ ws) h =
    elim (n == w.number) as (λ b. AllByRecursion (λ k. k < 64) (numbers (cond b ws (w ∷ without n ws)))) [
      | true ↦ h.1
      | false ↦ (h.0, below_without n ws h.1)
    ]

pub are_waiters_without : (n : ℕ) (ws : List Waiter) → AreWaiters ws → AreWaiters (without n ws)
are_waiters_without n ws are = record { below = below_without n ws are.below; apart = apart_without n ws are.apart }

-- what is left, once the one at i is taken out
pub left_at : (n : ℕ) (ws : List Waiter) (i : ℕ) (d : Waiter) → AreWaiters ws → i < length ws → (get_or ws i d).number ≡ n → without n ws ≡ remove ws i
left_at n ws i d are l e = subst (λ (k : ℕ). without k ws ≡ remove ws i) e (without_at ws i d are.apart l)

pub was_woken_at : (n : ℕ) (ws : List Waiter) (i : ℕ) (d : Waiter) → AreWaiters ws → i < length ws → (get_or ws i d).number ≡ n → (get_or ws i d).is_woken ≡ is_woken_at n ws
was_woken_at n ws i d are l e = sym (subst (λ (k : ℕ). is_woken_at k ws ≡ (get_or ws i d).is_woken) e (woken_at ws i d are.apart l))

pub are_waiters_along : (vs ws : List Waiter) → numbers ws ≡ numbers vs → AreWaiters vs → AreWaiters ws
are_waiters_along vs ws e are =
    record {
      below = subst (λ (ns : List ℕ). AllByRecursion (λ k. k < 64) ns) (sym e) are.below;
      apart = subst AreApart (sym e) are.apart;
    }
