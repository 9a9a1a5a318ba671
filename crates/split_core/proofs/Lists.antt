-- What a list holds after one element is changed.
use Rattle.std.proofs.Common.{◌≡◌, ℕ, zero, suc, ◌≢◌, ◌⊎◌, inl, inr, List, [], ◌∷◌, slice_get, slice_set, Some, refl, ap, sym, map, subst, Bool, true}
use Rattle.std.proofs.Common.{false, count_by, cond, ◌+◌, ◌≤◌, ◌<◌, arith, ◌∙◌}
use Rattle.std.proofs.lemmas.List.Sums.{sum_by-cons}
use Rattle.std.proofs.lemmas.Bool.{cases_Bool, cond-true, cond-false}

pub get_set : {X : Type 0} (xs : List X) (i j : ℕ) (v y : X) → slice_get (slice_set xs i v) j ≡ Some y → ((j ≡ i) × (y ≡ v))
    ⊎ ((j ≢ i) × (slice_get xs j ≡ Some y))
get_set [] i j v y h = cc
get_set (x ∷ xs) zero zero v y h = inl (refl, cc)
get_set (x ∷ xs) zero (suc j) v y h = inr (λ e. cc, h)
get_set (x ∷ xs) (suc i) zero v y h = inr (λ e. cc, h)
get_set (x ∷ xs) (suc i) (suc j) v y h = elim (get_set xs i j v y h) [ inl k ↦ inl (ap suc k.0, k.1) | inr k ↦ inr (λ e. k.0 (cc), k.1) ]

pub get_set_same : {X : Type 0} (xs : List X) (i : ℕ) (v x : X) → slice_get xs i ≡ Some x → slice_get (slice_set xs i v) i ≡ Some v
get_set_same [] i v x h = cc
get_set_same (y ∷ xs) zero v x h = refl
get_set_same (y ∷ xs) (suc i) v x h = get_set_same xs i v x h

pub get_set_other : {X : Type 0} (xs : List X) (i j : ℕ) (v x : X) → j ≢ i → slice_get xs j ≡ Some x → slice_get (slice_set xs i v) j ≡ Some x
get_set_other [] i j v x ne h = h
get_set_other (y ∷ xs) zero zero v x ne h = absurd (ne refl)
get_set_other (y ∷ xs) zero (suc j) v x ne h = h
get_set_other (y ∷ xs) (suc i) zero v x ne h = h
get_set_other (y ∷ xs) (suc i) (suc j) v x ne h = get_set_other xs i j v x (λ e. ne (ap suc e)) h

pub get_set_others : {X : Type 0} (xs : List X) (i j : ℕ) (v : X) → j ≢ i → slice_get (slice_set xs i v) j ≡ slice_get xs j
get_set_others [] i j v ne = refl
get_set_others (y ∷ xs) zero zero v ne = absurd (ne refl)
get_set_others (y ∷ xs) zero (suc j) v ne = refl
get_set_others (y ∷ xs) (suc i) zero v ne = refl
get_set_others (y ∷ xs) (suc i) (suc j) v ne = get_set_others xs i j v (λ e. ne (ap suc e))

pub get_map : {X Y : Type 0} (f : X → Y) (xs : List X) (i : ℕ) (y : Y) → slice_get (map f xs) i ≡ Some y → (x : X)
    × (slice_get xs i ≡ Some x) × (y ≡ f x)
get_map f [] i y h = cc
get_map f (x ∷ xs) zero y h = (x, refl, cc)
get_map f (x ∷ xs) (suc i) y h = get_map f xs i y h

pub get_of_map : {X Y : Type 0} (f : X → Y) (xs : List X) (i : ℕ) (x : X) → slice_get xs i ≡ Some x → slice_get (map f xs) i ≡ Some (f x)
get_of_map f [] i x h = cc
get_of_map f (y ∷ xs) zero x h = let e : y ≡ x = cc in ap (λ z. Some (f z)) e
get_of_map f (y ∷ xs) (suc i) x h = get_of_map f xs i x h

-- counts
unfoldable pub bit : {X : Type 0} → (X → Bool) → X → ℕ
bit p x = cond (p x) 1 0

bit_yes : {X : Type 0} (p : X → Bool) (x : X) → p x ≡ true → bit p x ≡ 1
unfolding bit
bit_yes p x t = cond-true (p x) 1 0 t

bit_no : {X : Type 0} (p : X → Bool) (x : X) → p x ≡ false → bit p x ≡ 0
unfolding bit
bit_no p x f = cond-false (p x) 1 0 f

bit_less : {X : Type 0} (p q : X → Bool) → ((x : X) → p x ≡ true → q x ≡ true) → (x : X) → bit p x ≤ bit q x
bit_less p q h x = elim (cases_Bool (p x)) [ inl t ↦ omega (arith, bit_yes p x t, bit_yes q x (h x t)) | inr f ↦ omega (arith, bit_no p x f) ]

pub count_cons : {X : Type 0} (p : X → Bool) (x : X) (xs : List X) → count_by p (x ∷ xs) ≡ bit p x + count_by p xs
unfolding bit
count_cons p x xs = sum_by-cons (λ y. cond (p y) 1 0) x xs

pub count_less : {X : Type 0} (p q : X → Bool) (xs : List X) → ((x : X) → p x ≡ true → q x ≡ true) → count_by p xs ≤ count_by q xs
count_less p q [] h = omega arith
count_less p q (x ∷ xs) h = omega (arith, count_cons p x xs, count_cons q x xs, bit_less p q h x, count_less p q xs h)

pub count_fewer : {X : Type 0} (p q : X → Bool) (xs : List X) (a : ℕ) (x : X) → ((x : X) → p x ≡ true → q x ≡ true)
    → slice_get xs a ≡ Some x → p x ≡ false → q x ≡ true → count_by p xs < count_by q xs
count_fewer p q [] a x h e f t = cc
count_fewer p q (y ∷ xs) zero x h e f t =
    let s : y ≡ x = cc in
    omega (arith, count_cons p y xs, count_cons q y xs, count_less p q xs h, bit_yes q y (ap q s ∙ t), bit_no p y (ap p s ∙ f))
count_fewer p q (y ∷ xs) (suc a) x h e f t = omega (arith, count_cons p y xs, count_cons q y xs, bit_less p q h y, count_fewer p q xs a x h e f t)

pub count_some : {X : Type 0} (p : X → Bool) (xs : List X) → 0 < count_by p xs → (a : ℕ) × (x : X) × (slice_get xs a ≡ Some x) × (p x ≡ true)
count_some p [] h = absurd (omega arith)
count_some p (x ∷ xs) h =
    elim (cases_Bool (p x)) [
      | inl t ↦ (0, x, refl, t)
      | inr f ↦ let k = count_some p xs (omega (arith, count_cons p x xs, bit_no p x f)) in (suc k.0, k.1, k.2, k.3)
    ]

pub count_none : {X : Type 0} (p : X → Bool) (xs : List X) (a : ℕ) (x : X) → slice_get xs a ≡ Some x → p x ≡ true → 0 < count_by p xs
count_none {X} p xs a x e t = let k = count_fewer (λ (y : X). false) p xs a x (λ _ z. cc) e refl t in omega arith

-- what holds of the new element and of each other one holds of all
pub each_set : {X : Type 0} (xs : List X) (i : ℕ) (v : X) (P : ℕ → X → Type 0) → P i v
    → ((b : ℕ) (y : X) → b ≢ i → slice_get xs b ≡ Some y → P b y) → (b : ℕ) (y : X) → slice_get (slice_set xs i v) b ≡ Some y → P b y
each_set {X} xs i v P here there b y h =
    elim (get_set xs i b v y h) [
      | inl q ↦ subst (λ (j : ℕ). P j y) (sym q.0) (subst (λ (z : X). P i z) (sym q.1) here)
      | inr q ↦ there b y q.0 q.1
    ]
