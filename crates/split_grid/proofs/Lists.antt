-- Lists by the table's look-up and by the grid's, and what they hold after one element is changed.
use Rattle.std.proofs.Common.{◌≡◌, ◌≢◌, ◌⊎◌, ℕ, zero, suc, inl, inr, List, [], ◌∷◌, ◌++◌, slice_get, slice_set, slice_index, Some, refl, ap, sym}
use mathlib.Core.Option.{some, some-ne-none, some-injective}
use lib.ListN.{get_elem?}

module _ {X : Type 0} where
  pub got : (xs : List X) (i : ℕ) (x : X) → get_elem? xs i ≡ some x → slice_get xs i ≡ Some x
  got [] i x e = absurd (some-ne-none x (sym e))
  got (y ∷ ys) zero x e = ap Some (some-injective y x e)
  got (y ∷ ys) (suc i) x e = got ys i x e

  pub put_in : (xs : List X) (i : ℕ) (x : X) → slice_get xs i ≡ Some x → get_elem? xs i ≡ some x
  put_in [] i x e = cc
  put_in (y ∷ ys) zero x e = let h : y ≡ x = cc in ap some h
  put_in (y ∷ ys) (suc i) x e = put_in ys i x e

  pub get_set : (xs : List X) (i j : ℕ) (v y : X) → slice_get (slice_set xs i v) j ≡ Some y → ((j ≡ i) × (y ≡ v))
      ⊎ ((j ≢ i) × (slice_get xs j ≡ Some y))
  get_set [] i j v y h = cc
  get_set (x ∷ xs) zero zero v y h = inl (refl, cc)
  get_set (x ∷ xs) zero (suc j) v y h = inr (λ e. cc, h)
  get_set (x ∷ xs) (suc i) zero v y h = inr (λ e. cc, h)
  get_set (x ∷ xs) (suc i) (suc j) v y h = elim (get_set xs i j v y h) [ inl k ↦ inl (ap suc k.0, k.1) | inr k ↦ inr (λ e. k.0 (cc), k.1) ]

  pub get_set_same : (xs : List X) (i : ℕ) (v x : X) → slice_get xs i ≡ Some x → slice_get (slice_set xs i v) i ≡ Some v
  get_set_same [] i v x h = cc
  get_set_same (y ∷ xs) zero v x h = refl
  get_set_same (y ∷ xs) (suc i) v x h = get_set_same xs i v x h

  pub get_set_other : (xs : List X) (i j : ℕ) (v x : X) → j ≢ i → slice_get xs j ≡ Some x → slice_get (slice_set xs i v) j ≡ Some x
  get_set_other [] i j v x ne h = h
  get_set_other (y ∷ xs) zero zero v x ne h = absurd (ne refl)
  get_set_other (y ∷ xs) zero (suc j) v x ne h = h
  get_set_other (y ∷ xs) (suc i) zero v x ne h = h
  get_set_other (y ∷ xs) (suc i) (suc j) v x ne h = get_set_other xs i j v x (λ e. ne (ap suc e)) h

  -- an element of the first of two lists
  pub get_front : (xs ys : List X) (i : ℕ) (x : X) → slice_get xs i ≡ Some x → slice_get (xs ++ ys) i ≡ Some x
  get_front [] ys i x h = cc
  get_front (y ∷ xs) ys zero x h = h
  get_front (y ∷ xs) ys (suc i) x h = get_front xs ys i x h

  pub set_front : (xs ys : List X) (i : ℕ) (v x : X) → slice_get xs i ≡ Some x → slice_set (xs ++ ys) i v ≡ slice_set xs i v ++ ys
  set_front [] ys i v x h = cc
  set_front (y ∷ xs) ys zero v x h = refl
  set_front (y ∷ xs) ys (suc i) v x h = ap (λ l. y ∷ l) (set_front xs ys i v x h)

-- a word that is read stays
pub set_self : (words : List ℕ) (i : ℕ) → slice_set words i (slice_index words i) ≡ words
set_self [] i = refl
set_self (w ∷ words) zero = refl
set_self (w ∷ words) (suc i) = ap (λ l. w ∷ l) (set_self words i)
