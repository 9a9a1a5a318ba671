-- What is seen of a row with a hole, and of two spots.
use Rattle.std.proofs.Common.{◌≡◌, ◌+◌, ◌<◌, ◌≤◌, ◌≢◌, inl, inr, ⊎_elim, ℕ, Bool, true, List, length, get_or, refl, sym, ◌∙◌, ap, subst, slice_set, arith}
use lib.Seq.{get_or-set_same, get_or-set_other}
use Rattle.std.specs.List.{SwappedAt, swap}
use Rattle.core.proofs.slice.Lists.{any-default}
use Rattle.core.proofs.slice.Indexed.{swap_places}
use Rattle.std.proofs.lemmas.List.Sorted.{length_permutation}
use Rattle.std_alloc.proofs.Permutation.{swap_shuffles}
use Rattle.leftist_heap.specs.Sifting.{StandsBefore, IsLowerSpot, IsLowest}
use Rattle.leftist_heap.proofs.Orders.{IsOrder}
use Rattle.leftist_heap.proofs.Sifts.{by, single, joined}

module _ {X : Type 0} (goes_before : X → X → Bool) where
  -- items that are read at two places
  pub before_at : (xs : List X) (i k : ℕ) (x y : X) → i < length xs → k < length xs → x ≡ get_or xs i x → y ≡ get_or xs k y
      → goes_before x y ≡ true → StandsBefore goes_before xs i k
  before_at xs i k x y p q e f h d = by goes_before _ _ _ _ (any-default xs i d x p ∙ sym e) (any-default xs k d y q ∙ sym f) h

  -- what lies beside a hole is as it was
  pub beside_hole : (xs : List X) (j : ℕ) (x : X) (i k : ℕ) → i ≢ j → k ≢ j → StandsBefore goes_before xs i k
      → StandsBefore goes_before (slice_set xs j x) i k
  beside_hole xs j x i k p q h d = by goes_before _ _ _ _ (get_or-set_other xs j i x d p) (get_or-set_other xs j k x d q) (h d)

  -- the item of the hole, and one beside it
  pub from_hole : (xs : List X) (j k : ℕ) (x y : X) → j < length xs → k < length xs → k ≢ j → y ≡ get_or xs k y
      → goes_before x y ≡ true → StandsBefore goes_before (slice_set xs j x) j k
  from_hole xs j k x y p q n f h d =
      by goes_before _ _ _ _ (get_or-set_same xs j x d p) (get_or-set_other xs j k x d n ∙ any-default xs k d y q ∙ sym f) h

  pub onto_hole : (xs : List X) (j k : ℕ) (x y : X) → j < length xs → k < length xs → k ≢ j → y ≡ get_or xs k y
      → goes_before y x ≡ true → StandsBefore goes_before (slice_set xs j x) k j
  onto_hole xs j k x y p q n f h d =
      by goes_before _ _ _ _ (get_or-set_other xs j k x d n ∙ any-default xs k d y q ∙ sym f) (get_or-set_same xs j x d p) h

  module _ (o : IsOrder goes_before) where
    -- a run of one spot, k places from n
    pub single_spot : (xs : List X) (n k a b i : ℕ) (x : X) → a ≡ n + k → b ≡ a + 1 → i ≡ k → x ≡ get_or xs (n + k) x
        → IsLowest goes_before xs a b (n + i) × (x ≡ get_or xs (n + i) x)
    single_spot xs n k a b i x start end at item =
        let place : n + i ≡ a = omega arith in
        let from : n + i ≡ n + k = omega arith in
        (subst (IsLowest goes_before xs a b) (sym place) (single goes_before o xs a b end), item ∙ (λ t. get_or xs (sym from t) x))

    -- the lower one of the lowest of two neighbouring runs, with its item
    pub joined_spots : (xs : List X) (n a b c i j k : ℕ) (x y z : X) → c ≤ length xs
        → IsLowest goes_before xs a b (n + i) × (x ≡ get_or xs (n + i) x) → IsLowest goes_before xs b c (n + j) × (y ≡ get_or xs (n + j) y)
        → IsLowerSpot goes_before i x j y k z → IsLowest goes_before xs a c (n + k) × (z ≡ get_or xs (n + k) z)
    joined_spots xs n a b c i j k x y z end p q h =
        let within = p.0.within in
        let beyond = q.0.within in
        let first : n + i < length xs = omega arith in
        let second : n + j < length xs = omega arith in
        ⊎_elim
        (λ u. (
          joined goes_before o xs a b c (n + i) (n + j) (n + k) p.0 q.0
              (inl (ap (λ m. n + m) u.0, before_at xs (n + i) (n + j) x y first second p.1 q.1 u.2)),
          u.1 ∙ p.1 ∙ (λ t. get_or xs (n + sym u.0 t) (sym u.1 t)),
        ))
        (λ u. (
          joined goes_before o xs a b c (n + i) (n + j) (n + k) p.0 q.0
              (inr (ap (λ m. n + m) u.0, before_at xs (n + j) (n + i) y x second first q.1 p.1 u.2)),
          u.1 ∙ q.1 ∙ (λ t. get_or xs (n + sym u.0 t) (sym u.1 t)),
        ))
        h

-- what changes where two items change places
pub swapped : {X : Type 0} (xs ys : List X) (a b : ℕ) → a < length xs → b < length xs → ys ≡ swap xs a b → SwappedAt xs ys a b
swapped xs ys a b p q e = swap_places xs ys (length xs) refl a b p q e

pub as_long : {X : Type 0} (xs ys : List X) (a b : ℕ) → a < length xs → b < length xs → ys ≡ swap xs a b → length ys ≡ length xs
as_long xs ys a b p q e = length_permutation _ _ (swap_shuffles xs ys a b p q e)
