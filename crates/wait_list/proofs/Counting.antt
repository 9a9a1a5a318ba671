-- How many of a group are awake, counted one after another.
use Rattle.std.proofs.Common.{◌≡◌, ℕ, zero, suc, ◌+◌, ◌<◌, ◌≤◌, List, [], ◌∷◌, length, take, get_or, Bool, true, false, cond, refl, sym, arith, add-one}
use mir.Val.{bool_byte}
use Rattle.wait_list.specs.declared.group.Group.{Group}
use Rattle.wait_list.specs.declared.waiter.Waiter.{Waiter}
use Rattle.wait_list.specs.Waiters.{is_awake, count_awake}

step_at : (g : Group) (ws : List Waiter) (i : ℕ) (d : Waiter) → i < length ws
    → count_awake g (take (suc i) ws) ≡ count_awake g (take i ws) + cond (is_awake g (get_or ws i d)) 1 0
step_at g [] i d l = absurd (omega arith)
step_at g (w ∷ ws) zero d l = omega arith
step_at g (w ∷ ws) (suc i) d l = omega (arith, step_at g ws i d (omega arith))

-- the number that the code adds
one_if : (b : Bool) → bool_byte b ≡ cond b 1 0
one_if true = refl
one_if false = refl

at_most_one : (b : Bool) → cond b 1 0 ≤ 1
at_most_one true = omega arith
at_most_one false = omega arith

pub count_step : (g : Group) (ws : List Waiter) (i : ℕ) (d : Waiter) (awake : Bool) (count one : ℕ) → i < length ws → awake ≡ is_awake g (get_or ws i d)
    → one ≡ bool_byte awake → count ≡ count_awake g (take i ws) → count + one ≡ count_awake g (take (i + 1) ws)
count_step g ws i d awake count one l e f h = rw (h, f, one_if awake, e, add-one i) (sym (step_at g ws i d l))

pub one_at_most : (awake : Bool) (one : ℕ) → one ≡ bool_byte awake → one ≤ 1
one_at_most awake one h = omega (arith, h, one_if awake, at_most_one awake)
