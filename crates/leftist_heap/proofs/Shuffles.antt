-- The content of a heap in an array: the order in which the array keeps the items makes no
-- difference.
use Rattle.std.proofs.Common.{◌≡◌, ◌<◌, ℕ, zero, suc, Bool, List, [], ◌∷◌, length, get_or, set, refl, ◌∙◌, ap, arith}
use Rattle.std.specs.List.{swap}
use Rattle.std.specs.List.Sorted.{IsPermutation}
use Rattle.std.proofs.lemmas.List.Sorted.{IsPermutation-keeps}
use Rattle.leftist_heap.specs.Order.{with_items_by}
use Rattle.leftist_heap.specs.Order.{with_item_by}
use Rattle.leftist_heap.proofs.Orders.{IsExactOrder}
use Rattle.leftist_heap.proofs.Contents.{put-comm}

module _ {X : Type 0} (goes_before : X → X → Bool) (o : IsExactOrder goes_before) where
  -- one item written over another
  content-set : (xs : List X) (i : ℕ) (y d : X) → i < length xs
      → with_item_by goes_before (get_or xs i d) (with_items_by goes_before (set xs i y) [])
      ≡ with_item_by goes_before y (with_items_by goes_before xs [])
  content-set [] i y d lt = absurd (omega arith)
  content-set (x ∷ xs) zero y d lt = put-comm goes_before o x y (with_items_by goes_before xs [])
  content-set (x ∷ xs) (suc i) y d lt =
      put-comm goes_before o (get_or xs i d) x (with_items_by goes_before (set xs i y) [])
      ∙ ap (with_item_by goes_before x) (content-set xs i y d (omega arith))
      ∙ put-comm goes_before o x y (with_items_by goes_before xs [])

  -- two items that change places
  content-exchanged : (xs : List X) (i j : ℕ) (d : X) → i < length xs → j < length xs
      → with_items_by goes_before (set (set xs i (get_or xs j d)) j (get_or xs i d)) [] ≡ with_items_by goes_before xs []
  content-exchanged [] i j d p q = absurd (omega arith)
  content-exchanged (x ∷ xs) zero zero d p q = refl
  content-exchanged (x ∷ xs) zero (suc j) d p q = content-set xs j x d (omega arith)
  content-exchanged (x ∷ xs) (suc i) zero d p q = content-set xs i x d (omega arith)
  content-exchanged (x ∷ xs) (suc i) (suc j) d p q = ap (with_item_by goes_before x) (content-exchanged xs i j d (omega arith) (omega arith))

  -- the same, as the library says it
  content-swapped : (xs : List X) (i j : ℕ) → i < length xs → j < length xs
      → with_items_by goes_before (swap xs i j) [] ≡ with_items_by goes_before xs []
  content-swapped [] i j p q = refl
  content-swapped (x ∷ xs) i j p q = content-exchanged (x ∷ xs) i j x p q

  -- the same items in any order
  pub content-permuted : (xs ys : List X) → IsPermutation xs ys → with_items_by goes_before ys [] ≡ with_items_by goes_before xs []
  content-permuted xs ys =
      IsPermutation-keeps xs (λ l. with_items_by goes_before l [] ≡ with_items_by goes_before xs []) refl
      (λ l i j p q h. content-swapped l i j p q ∙ h) ys
