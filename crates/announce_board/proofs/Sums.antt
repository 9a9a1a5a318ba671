-- Sums over the views of a table.
use Rattle.std.proofs.Common.{◌≡◌, ◌≢◌, ℕ, zero, suc, ◌+◌, ◌<◌, ◌≤◌, List, [], ◌∷◌, length, set, refl, ap, sym, ◌∙◌, arith}
use Rattle.std.specs.List.{sum_by}
use Rattle.std.specs.Prelude.{slice_get, Some}
use Rattle.std.proofs.lemmas.List.Sums.{sum_by-cons}
use mathlib.Core.Option.{some, some-injective, some-ne-none}
use lib.ListN.{get_elem?}
use mathlib.Core.Logic.{dite}
use native.Mathlib.Decide.{ℕ_discrete}
use Rattle.atomic_table.proofs.Lists.{set_else}

module _ {A : Type 0} (f : A → ℕ) where
  -- one becomes another
  pub sum_set : (xs : List A) (i : ℕ) (v w : A) → get_elem? xs i ≡ some v → sum_by f (set xs i w) + f v ≡ sum_by f xs + f w
  sum_set [] i v w e = absurd (some-ne-none v (sym e))
  sum_set (x ∷ xs) zero v w e =
      let a = sum_by-cons f w xs in
      let b = sum_by-cons f x xs in
      let c : f x ≡ f v = ap f (some-injective x v e) in
      omega (arith, a, b, c)
  sum_set (x ∷ xs) (suc i) v w e =
      let a = sum_by-cons f x (set xs i w) in
      let b = sum_by-cons f x xs in
      let c = sum_set xs i v w e in
      omega (arith, a, b, c)

  -- one of them weighs no more than all
  pub sum_one : (xs : List A) (i : ℕ) (v : A) → get_elem? xs i ≡ some v → f v ≤ sum_by f xs
  sum_one [] i v e = absurd (some-ne-none v (sym e))
  sum_one (x ∷ xs) zero v e =
      let b = sum_by-cons f x xs in
      let c : f x ≡ f v = ap f (some-injective x v e) in
      omega (arith, b, c)
  sum_one (x ∷ xs) (suc i) v e =
      let b = sum_by-cons f x xs in
      let c = sum_one xs i v e in
      omega (arith, b, c)

  -- nor do two
  pub sum_two : (xs : List A) (i j : ℕ) (v w : A) → get_elem? xs i ≡ some v → get_elem? xs j ≡ some w → j ≢ i → f v + f w ≤ sum_by f xs
  sum_two [] i j v w e h ne = absurd (some-ne-none v (sym e))
  sum_two (x ∷ xs) zero zero v w e h ne = absurd (ne refl)
  sum_two (x ∷ xs) zero (suc j) v w e h ne =
      let b = sum_by-cons f x xs in
      let c : f x ≡ f v = ap f (some-injective x v e) in
      let t = sum_one xs j w h in
      omega (arith, b, c, t)
  sum_two (x ∷ xs) (suc i) zero v w e h ne =
      let b = sum_by-cons f x xs in
      let c : f x ≡ f w = ap f (some-injective x w h) in
      let t = sum_one xs i v e in
      omega (arith, b, c, t)
  sum_two (x ∷ xs) (suc i) (suc j) v w e h ne =
      let b = sum_by-cons f x xs in
      let t = sum_two xs i j v w e h (λ g. ne (ap suc g)) in
      omega (arith, b, t)

  -- where each weighs nothing, all weigh nothing
  pub sum_none : (xs : List A) → ((i : ℕ) (v : A) → get_elem? xs i ≡ some v → f v ≡ 0) → sum_by f xs ≡ 0
  sum_none [] none = refl
  sum_none (x ∷ xs) none =
      let b = sum_by-cons f x xs in
      let c : f x ≡ 0 = none 0 x refl in
      let t = sum_none xs (λ i v e. none (suc i) v e) in
      omega (arith, b, c, t)

  -- two become others that weigh as much
  pub sum_both : (xs : List A) (i j : ℕ) (v w both spent : A) → get_elem? xs i ≡ some v → get_elem? xs j ≡ some w → j ≢ i → f both + f spent ≡ f v + f w
      → sum_by f (set (set xs i both) j spent) ≡ sum_by f xs
  sum_both xs i j v w both spent at there ne same =
      let a = sum_set xs i v both at in
      let b = sum_set (set xs i both) j w spent (set_else xs i j both ne ∙ there) in
      omega (arith, a, b, same)

-- a list read by `slice_get`, as one read by `get_elem?`
pub at_get : {A : Type 0} (xs : List A) (i : ℕ) (x : A) → slice_get xs i ≡ Some x → get_elem? xs i ≡ some x
at_get [] i x e = absurd (cc e)
at_get (y ∷ xs) zero x e = let f : y ≡ x = cc in ap some f
at_get (y ∷ xs) (suc i) x e = at_get xs i x e

-- and back
pub get_at : {A : Type 0} (xs : List A) (i : ℕ) (x : A) → get_elem? xs i ≡ some x → slice_get xs i ≡ Some x
get_at [] i x e = absurd (some-ne-none x (sym e))
get_at (y ∷ xs) zero x e = ap Some (some-injective y x e)
get_at (y ∷ xs) (suc i) x e = get_at xs i x e

pub length_at : {A : Type 0} (xs : List A) (i : ℕ) (a : A) → get_elem? xs i ≡ some a → i < length xs
length_at [] i a e = absurd (cc e)
length_at (x ∷ xs) zero a e = omega arith
length_at (x ∷ xs) (suc i) a e = let h = length_at xs i a e in omega arith

-- where all weigh 1 at most, two that weigh 1 are one
pub sum_apart : {A : Type 0} (f : A → ℕ) (xs : List A) (i j : ℕ) (v w : A) → sum_by f xs ≤ 1 → get_elem? xs i ≡ some v → get_elem? xs j ≡ some w
    → f v ≡ 1 → f w ≡ 1 → j ≡ i
sum_apart f xs i j v w few at there one other =
    dite (ℕ_discrete j i) (λ e. e) (λ ne. absurd (let t = sum_two f xs i j v w at there ne in omega (arith, t, few, one, other)))
