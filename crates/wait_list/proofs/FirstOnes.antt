-- Waking the first of a group, and all of it.
use Rattle.std.proofs.Common.{◌≡◌, ◌≢◌, ℕ, zero, suc, ◌+◌, ◌-◌, ◌<◌, List, [], ◌∷◌, ◌++◌, length, take, drop, set, get_or, Bool, true, false, ◌||◌, cond, refl, sym, ◌∙◌, ap, subst, arith, add-one}
use Rattle.std.proofs.Math.Seq.{take-nil, drop-nil}
use Rattle.wait_list.specs.declared.group.Group.{Group}
use Rattle.wait_list.specs.declared.waiter.Waiter.{Waiter}
use Rattle.wait_list.specs.Waiters.{is_asleep, woken}
use Rattle.wait_list.specs.Settled.{woken_first, all_awake, awake_if_in}

pub neither : (a b : Bool) → (a || b) ≡ false → (a ≡ false) × (b ≡ false)
neither true b h = (h, absurd cc)
neither false b h = (refl, h)

-- where none is to be woken, all stay as they are
pub woken_none : (g : Group) (ws : List Waiter) → woken_first 0 g ws ≡ ws
woken_none g [] = refl
woken_none g (w ∷ ws) = refl

pub none_left : (g : Group) (ws : List Waiter) (i : ℕ) → take i ws ++ woken_first 0 g (drop i ws) ≡ ws
none_left g [] i = rw (take-nil i, drop-nil i) refl
none_left g (w ∷ ws) zero = refl
none_left g (w ∷ ws) (suc i) = ap (λ (vs : List Waiter). w ∷ vs) (none_left g ws i)

-- One step of a loop that wakes the first ones, of whom so many are left.
abbrev one_if : Bool → ℕ
one_if b = cond b 1 0

step_here : (g : Group) (n : ℕ) (w : Waiter) (ws : List Waiter) (b : Bool) → is_asleep g w ≡ b
    → cond b (woken w) w ∷ woken_first (suc n - one_if b) g ws ≡ cond b (woken w ∷ woken_first n g ws) (w ∷ woken_first (suc n) g ws)
step_here g n w ws true h = let e : suc n - 1 ≡ n = omega arith in rw e refl
step_here g n w ws false h = let e : suc n - 0 ≡ suc n = omega arith in rw e refl

first_at : (g : Group) (n : ℕ) (ws : List Waiter) (i : ℕ) (d : Waiter) → i < length ws
    → take (suc i) (set ws i (awake_if_in g (get_or ws i d))) ++ woken_first (suc n - one_if (is_asleep g (get_or ws i d))) g (drop (suc i) (set ws i (awake_if_in g (get_or ws i d))))
    ≡ take i ws ++ woken_first (suc n) g (drop i ws)
first_at g n [] i d l = absurd (omega arith)
first_at g n (w ∷ ws) zero d l = step_here g n w ws (is_asleep g w) refl
first_at g n (w ∷ ws) (suc i) d l = ap (λ (vs : List Waiter). w ∷ vs) (first_at g n ws i d (omega arith))

pub first_step : (g : Group) (n : ℕ) (ws all : List Waiter) (i : ℕ) (d one : Waiter) (slept : Bool) → i < length ws → n ≢ 0
    → slept ≡ is_asleep g (get_or ws i d) → one ≡ awake_if_in g (get_or ws i d) → take i ws ++ woken_first n g (drop i ws) ≡ all
    → take (i + 1) (set ws i one) ++ woken_first (n - one_if slept) g (drop (i + 1) (set ws i one)) ≡ all
first_step g zero ws all i d one slept l more s o e = absurd (more refl)
first_step g (suc n) ws all i d one slept l more s o e =
    rw (s, o, add-one i) (first_at g n ws i d l ∙ e)

-- one step of a loop that wakes all
step_at : (g : Group) (xs : List Waiter) (i : ℕ) (d : Waiter) → i < length xs
    → set (all_awake g (take i xs) ++ drop i xs) i (awake_if_in g (get_or (all_awake g (take i xs) ++ drop i xs) i d)) ≡ all_awake g (take (suc i) xs) ++ drop (suc i) xs
step_at g [] i d l = absurd (omega arith)
step_at g (x ∷ xs) zero d l = refl
step_at g (x ∷ xs) (suc i) d l = ap (λ (vs : List Waiter). awake_if_in g x ∷ vs) (step_at g xs i d (omega arith))

pub all_awake_step : (g : Group) (xs ws : List Waiter) (i : ℕ) (d : Waiter) → i < length xs → ws ≡ all_awake g (take i xs) ++ drop i xs
    → set ws i (awake_if_in g (get_or ws i d)) ≡ all_awake g (take (i + 1) xs) ++ drop (i + 1) xs
all_awake_step g xs ws i d l e =
    subst (λ (n : ℕ). set ws i (awake_if_in g (get_or ws i d)) ≡ all_awake g (take n xs) ++ drop n xs) (sym (add-one i))
    (subst (λ (vs : List Waiter). set vs i (awake_if_in g (get_or vs i d)) ≡ all_awake g (take (suc i) xs) ++ drop (suc i) xs) (sym e) (step_at g xs i d l))
