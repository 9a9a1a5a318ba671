-- Changes of a list, and of one of which more are awake.
use Rattle.std.proofs.Common.{ℕ, List, [], ◌∷◌, ◌++◌, true, false, ◌==◌, cond, inl, refl, subst, sym}
use Rattle.std.specs.Int.{bit_at}
use Rattle.wait_list.specs.declared.waiter.Waiter.{Waiter}
use Rattle.wait_list.specs.Waiters.{asleep, without, without_all, Change, Waits, Leaves, AllLeave, changed}
use Rattle.wait_list.specs.Settled.{OnlyWakes}
use Rattle.wait_list.proofs.OnlyWakings.{same_number}

only_behind : (vs ws : List Waiter) (x : Waiter) → OnlyWakes vs ws → OnlyWakes (vs ++ x ∷ []) (ws ++ x ∷ [])
only_behind [] [] x h = (inl refl, tt)
only_behind [] (w ∷ ws) x h = absurd h
only_behind (v ∷ vs) [] x h = absurd h
only_behind (v ∷ vs) (w ∷ ws) x h = (h.0, only_behind vs ws x h.1)

only_without : (n : ℕ) (vs ws : List Waiter) → OnlyWakes vs ws → OnlyWakes (without n vs) (without n ws)
only_without n [] [] h = tt
only_without n [] (w ∷ ws) h = absurd h
only_without n (v ∷ vs) [] h = absurd h
only_without n (v ∷ vs) (w ∷ ws) h =
    subst (λ (k : ℕ). OnlyWakes (without n (v ∷ vs)) (cond (n == k) ws (w ∷ without n ws))) (sym (same_number v w h.0))
    (elim (n == v.number) as (λ b. OnlyWakes (cond b vs (v ∷ without n vs)) (cond b ws (w ∷ without n ws))) [
      | true ↦ h.1
      | false ↦ (h.0, only_without n vs ws h.1)
    ])

only_without_all : (mask : ℕ) (vs ws : List Waiter) → OnlyWakes vs ws → OnlyWakes (without_all mask vs) (without_all mask ws)
only_without_all mask [] [] h = tt
only_without_all mask [] (w ∷ ws) h = absurd h
only_without_all mask (v ∷ vs) [] h = absurd h
only_without_all mask (v ∷ vs) (w ∷ ws) h =
    let rest = only_without_all mask vs ws h.1 in
    subst (λ (k : ℕ). OnlyWakes (without_all mask (v ∷ vs)) (cond (bit_at mask k == 1) (without_all mask ws) (w ∷ without_all mask ws))) (sym (same_number v w h.0))
    (elim (bit_at mask v.number == 1) as (λ b. OnlyWakes (cond b (without_all mask vs) (v ∷ without_all mask vs)) (cond b (without_all mask ws) (w ∷ without_all mask ws))) [
      | true ↦ rest
      | false ↦ (h.0, rest)
    ])

pub only_changed : (change : Change) (vs ws : List Waiter) → OnlyWakes vs ws → OnlyWakes (changed change vs) (changed change ws)
only_changed (Waits number wants) vs ws h = only_behind vs ws (asleep number wants) h
only_changed (Leaves number) vs ws h = only_without number vs ws h
only_changed (AllLeave mask) vs ws h = only_without_all mask vs ws h
