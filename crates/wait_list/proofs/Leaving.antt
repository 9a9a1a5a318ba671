-- The list without those of a mask.
use Rattle.std.proofs.Common.{◌≡◌, ℕ, zero, suc, ◌+◌, ◌<◌, ◌≤◌, List, [], ◌∷◌, ◌++◌, length, take, drop, get_or, true, false, ◌==◌, cond, refl, ◌∙◌, ap, subst, arith, add-one}
use Rattle.std.specs.Int.{bit_at}
use Rattle.std.specs.List.{AllByRecursion, remove}
use Rattle.std.proofs.lemmas.List.Edits.{length-remove}
use Rattle.wait_list.specs.declared.waiter.Waiter.{Waiter}
use Rattle.wait_list.specs.Waiters.{numbers, has_number, AreApart, AreWaiters, without_all}
use Rattle.wait_list.proofs.FirstOnes.{neither}
use Rattle.wait_list.proofs.Numbers.{left_at, are_waiters_without}

-- Without those of a mask: none who is there has gone, and they are apart still.
has_none_of : (m mask : ℕ) (ws : List Waiter) → has_number m ws ≡ false → has_number m (without_all mask ws) ≡ false
has_none_of m mask [] h = refl
has_none_of m mask (w ∷ ws) h =
    let both = neither (m == w.number) (has_number m ws) h in
    let no : (m == w.number) ≡ false = both.0 in
    elim (bit_at mask w.number == 1) as (λ b. has_number m (cond b (without_all mask ws) (w ∷ without_all mask ws)) ≡ false) [
      | true ↦ has_none_of m mask ws both.1
      | false ↦ rw no (has_none_of m mask ws both.1)
    ]

apart_without_all : (mask : ℕ) (ws : List Waiter) → AreApart (numbers ws) → AreApart (numbers (without_all mask ws))
apart_without_all mask [] h = tt
apart_without_all mask (w ∷ ws) h =
    elim (bit_at mask w.number == 1) as (λ b. AreApart (numbers (cond b (without_all mask ws) (w ∷ without_all mask ws)))) [
      | true ↦ apart_without_all mask ws h.1
      | false ↦ (has_none_of w.number mask ws h.0, apart_without_all mask ws h.1)
    ]

below_without_all : (mask : ℕ) (ws : List Waiter) → AllByRecursion (λ k. k < 64) (numbers ws) → AllByRecursion (λ k. k < 64) (numbers (without_all mask ws))
below_without_all mask [] h = tt
below_without_all mask (w ∷ ws) h =
    elim (bit_at mask w.number == 1) as (λ b. AllByRecursion (λ k. k < 64) (numbers (cond b (without_all mask ws) (w ∷ without_all mask ws)))) [
      | true ↦ below_without_all mask ws h.1
      | false ↦ (h.0, below_without_all mask ws h.1)
    ]

pub are_waiters_without_all : (mask : ℕ) (ws : List Waiter) → AreWaiters ws → AreWaiters (without_all mask ws)
are_waiters_without_all mask ws are = record { below = below_without_all mask ws are.below; apart = apart_without_all mask ws are.apart }

-- one step of a loop that takes those of a mask out: one goes, or one stays
goes_at : (mask : ℕ) (ws : List Waiter) (i : ℕ) (d : Waiter) → i < length ws → (bit_at mask (get_or ws i d).number == 1) ≡ true
    → take i (remove ws i) ++ without_all mask (drop i (remove ws i)) ≡ take i ws ++ without_all mask (drop i ws)
goes_at mask [] i d l h = absurd (omega arith)
goes_at mask (w ∷ ws) zero d l h = rw h refl
goes_at mask (w ∷ ws) (suc i) d l h = ap (λ (vs : List Waiter). w ∷ vs) (goes_at mask ws i d (omega arith) h)

stays_at : (mask : ℕ) (ws : List Waiter) (i : ℕ) (d : Waiter) → i < length ws → (bit_at mask (get_or ws i d).number == 1) ≡ false
    → take (suc i) ws ++ without_all mask (drop (suc i) ws) ≡ take i ws ++ without_all mask (drop i ws)
stays_at mask [] i d l h = absurd (omega arith)
stays_at mask (w ∷ ws) zero d l h = rw h refl
stays_at mask (w ∷ ws) (suc i) d l h = ap (λ (vs : List Waiter). w ∷ vs) (stays_at mask ws i d (omega arith) h)

stays_here : (mask : ℕ) (ws : List Waiter) (i : ℕ) (d : Waiter) → i < length ws → (bit_at mask (get_or ws i d).number == 1) ≡ false
    → take (i + 1) ws ++ without_all mask (drop (i + 1) ws) ≡ take i ws ++ without_all mask (drop i ws)
stays_here mask ws i d l h = rw (add-one i) (stays_at mask ws i d l h)

-- what holds between any two steps of that loop
pub record MaskLoop (mask i : ℕ) (ws old : List Waiter) : Type 0 where
  pub so_far : take i ws ++ without_all mask (drop i ws) ≡ without_all mask old
  pub inside : i ≤ length ws
  pub waiters : AreWaiters ws

pub one_goes : (mask i : ℕ) (ws old : List Waiter) (d : Waiter) → MaskLoop mask i ws old → i < length ws → (bit_at mask (get_or ws i d).number == 1) ≡ true
    → MaskLoop mask i (remove ws i) old
one_goes mask i ws old d h l e =
    record {
      so_far = goes_at mask ws i d l e ∙ h.so_far;
      inside = omega (arith, l, length-remove ws i l);
      waiters = subst AreWaiters (left_at (get_or ws i d).number ws i d h.waiters l refl) (are_waiters_without (get_or ws i d).number ws h.waiters);
    }

pub one_stays : (mask i : ℕ) (ws old : List Waiter) (d : Waiter) → MaskLoop mask i ws old → i < length ws → (bit_at mask (get_or ws i d).number == 1) ≡ false
    → MaskLoop mask (i + 1) ws old
one_stays mask i ws old d h l e = record { so_far = stays_here mask ws i d l e ∙ h.so_far; inside = omega (arith, l); waiters = h.waiters }
