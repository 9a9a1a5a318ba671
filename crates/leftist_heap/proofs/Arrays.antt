-- What the array of a heap says of the content.
use Rattle.std.proofs.Common.{◌≡◌, Bool, true, List, [], ◌∷◌, length, slice_get, Option, Some, None, MatchOption, refl, sym, ap, arith}
use Rattle.std.specs.List.{AllByRecursion}
use Rattle.std.specs.Option.{option_copied}
use denote.Ref.{Bor}
use Rattle.std.specs.List.Sorted.{IsPermutation}
use Rattle.leftist_heap.specs.Order.{with_item_by}
use Rattle.leftist_heap.specs.Store.{first_of}
use Rattle.leftist_heap.specs.Order.{with_items_by}
use Rattle.leftist_heap.proofs.Orders.{IsExactOrder, as_order}
use Rattle.leftist_heap.proofs.Contents.{put-first, all-with_items, length-with_items}
use Rattle.leftist_heap.proofs.Shuffles.{content-permuted}
use Rattle.leftist_heap.specs.Sifting.{IsHeapBy}
use Rattle.leftist_heap.proofs.Sifts.{low_first}

module _ {X : Type 0} (goes_before : X → X → Bool) where
  -- the content has as many items as the array
  pub length-content : (xs : List X) → length (with_items_by goes_before xs []) ≡ length xs
  length-content xs = omega (arith, length-with_items goes_before xs [])

  module _ (o : IsExactOrder goes_before) where
    -- an item that may stand before all of the array is the first of both
    content-lowest : (x : X) (ys : List X) → AllByRecursion (λ y. goes_before x y ≡ true) ys
        → with_items_by goes_before (x ∷ ys) [] ≡ x ∷ with_items_by goes_before ys []
    content-lowest x ys low =
        put-first goes_before o x (with_items_by goes_before ys []) (all-with_items goes_before (λ y. goes_before x y ≡ true) ys [] low tt)

    -- the array with one item more, in any order
    pub content-pushed : (x : X) (xs ys : List X) → IsPermutation (x ∷ xs) ys
        → with_items_by goes_before ys [] ≡ with_item_by goes_before x (with_items_by goes_before xs [])
    content-pushed x xs ys p = content-permuted goes_before o (x ∷ xs) ys p

    -- the first of the array is the first of the content
    pub content-first : (xs : List X) → IsHeapBy goes_before xs → slice_get xs 0 ≡ first_of (with_items_by goes_before xs [])
    content-first [] h = refl
    content-first (x ∷ xs) h = sym (ap first_of (content-lowest x xs (low_first goes_before (as_order o) x xs h)))

-- what is read behind a reference is the first of a list
pub first_seen : {X : Type 0} (found : Option (Bor X)) (xs : List X) → option_copied found ≡ first_of xs
    → MatchOption found (first_of xs ≡ None) (λ x. first_of xs ≡ Some x.now)
first_seen None xs e = sym e
first_seen (Some x) xs e = sym e
