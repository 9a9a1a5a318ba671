-- Those of a group who are woken are the first ones who slept.
use Rattle.std.proofs.Common.{◌≡◌, ℕ, zero, suc, List, [], ◌∷◌, Bool, true, false, cond, refl, ap, subst}
use Rattle.wait_list.specs.declared.group.Group.{Group}
use Rattle.wait_list.specs.declared.waiter.Waiter.{Waiter}
use Rattle.wait_list.specs.Waiters.{is_asleep, woken}
use Rattle.wait_list.specs.Settled.{woken_first, awake_if_in, WakesTheFirst}

none_before : (g : Group) (ws : List Waiter) → WakesTheFirst g ws ws
none_before g ws = record { before = []; behind = ws; old_is = refl; new_is = refl }

one_before : (g : Group) (w : Waiter) (ws us : List Waiter) → WakesTheFirst g ws us → WakesTheFirst g (w ∷ ws) (awake_if_in g w ∷ us)
one_before g w ws us h =
    record {
      before = w ∷ h.before;
      behind = h.behind;
      old_is = ap (λ (vs : List Waiter). w ∷ vs) h.old_is;
      new_is = ap (λ (vs : List Waiter). awake_if_in g w ∷ vs) h.new_is;
    }

first_by : (n : ℕ) (g : Group) (w : Waiter) (ws : List Waiter) (b : Bool) → is_asleep g w ≡ b → WakesTheFirst g ws (woken_first n g ws)
    → WakesTheFirst g ws (woken_first (suc n) g ws) → WakesTheFirst g (w ∷ ws) (cond b (woken w ∷ woken_first n g ws) (w ∷ woken_first (suc n) g ws))
first_by n g w ws true e f k = subst (λ (v : Waiter). WakesTheFirst g (w ∷ ws) (v ∷ woken_first n g ws)) (rw e refl) (one_before g w ws (woken_first n g ws) f)
first_by n g w ws false e f k = subst (λ (v : Waiter). WakesTheFirst g (w ∷ ws) (v ∷ woken_first (suc n) g ws)) (rw e refl) (one_before g w ws (woken_first (suc n) g ws) k)

pub wakes_the_first : (n : ℕ) (g : Group) (ws : List Waiter) → WakesTheFirst g ws (woken_first n g ws)
wakes_the_first n g [] = none_before g []
wakes_the_first zero g (w ∷ ws) = none_before g (w ∷ ws)
wakes_the_first (suc n) g (w ∷ ws) = first_by n g w ws (is_asleep g w) refl (wakes_the_first n g ws) (wakes_the_first (suc n) g ws)
