-- A descending list of items is an ascending one from behind.
use Rattle.std.proofs.Common.{◌≡◌, ◌<◌, ◌≤◌, ℕ, Bool, ◌++◌, List, [], ◌∷◌, true, false, not, reverse, take, drop, length, get_or, sym, ◌∙◌}
use Rattle.std.proofs.Common.{ap, arith, zero, suc}
use Rattle.std.specs.List.{AllByRecursion, AllWithin}
use Rattle.std.specs.List.Sorted.{IsPartitionedBy}
use Rattle.std.proofs.lemmas.List.Elements.{All-from_recursion, recursion_from_All}
use Rattle.std.proofs.lemmas.List.{reverse-append, reverse-reverse, take-append-drop, append_assoc}
use Rattle.leftist_heap.specs.Order.{IsAscendingBy, with_item_by}
use Rattle.leftist_heap.proofs.Orders.{IsExactOrder, as_order, by_bool, itself}
use Rattle.leftist_heap.proofs.Ascending.{all-append, ascending-front, ascending-across, with_item-between, with_item-ascending}

reverse-cons : {X : Type 0} (x : X) (xs : List X) → reverse (x ∷ xs) ≡ reverse xs ++ x ∷ []
reverse-cons x xs = reverse-append (x ∷ []) xs

pub all-reverse : {X : Type 0} (P : X → Type 0) (xs : List X) → AllByRecursion P xs → AllByRecursion P (reverse xs)
all-reverse P [] p = tt
all-reverse P (x ∷ xs) p = rw reverse-cons (all-append P (reverse xs) (x ∷ []) (all-reverse P xs p.1) (p.0, tt))

pub all-of_reverse : {X : Type 0} (P : X → Type 0) (xs : List X) → AllByRecursion P (reverse xs) → AllByRecursion P xs
all-of_reverse P xs p = rw reverse-reverse at (all-reverse P (reverse xs) p)

pub all-taken : {X : Type 0} (P : X → Type 0) (n : ℕ) (xs : List X) → AllWithin P xs 0 n → AllByRecursion P (take n xs)
all-taken P zero xs h = tt
all-taken P (suc n) [] h = tt
all-taken P (suc n) (x ∷ xs) h =
    (h 0 x (omega arith) (omega arith), all-taken P n xs (λ k d low high. h (suc k) d (omega arith) (omega arith)))

pub all-dropped : {X : Type 0} (P : X → Type 0) (n : ℕ) (xs : List X) → AllWithin P xs n (length xs) → AllByRecursion P (drop n xs)
all-dropped P zero xs h = recursion_from_All P xs (λ k d lt. h k d (omega arith) lt)
all-dropped P (suc n) [] h = tt
all-dropped P (suc n) (x ∷ xs) h = all-dropped P n xs (λ k d low high. h (suc k) d (omega arith) (omega arith))

module _ {X : Type 0} (goes_before : X → X → Bool) (o : IsExactOrder goes_before) where
  -- where the list from behind ascends, each item may stand before those in front of it
  descending-places : (xs : List X) → IsAscendingBy goes_before (reverse xs) → (i j : ℕ) (d : X) → i ≤ j → j < length xs
      → goes_before (get_or xs j d) (get_or xs i d) ≡ true
  descending-places [] a i j d le lt = absurd (omega arith)
  descending-places (x ∷ xs) a zero zero d le lt = itself goes_before (as_order o) x
  descending-places (x ∷ xs) a zero (suc j) d le lt =
      let b = rw reverse-cons at a in
      let all = all-of_reverse (λ y. goes_before y x ≡ true) xs (ascending-across goes_before (reverse xs) x [] b) in
      All-from_recursion (λ y. goes_before y x ≡ true) xs all j d (omega arith)
  descending-places (x ∷ xs) a (suc i) zero d le lt = absurd (omega arith)
  descending-places (x ∷ xs) a (suc i) (suc j) d le lt =
      let b = rw reverse-cons at a in
      descending-places xs (ascending-front goes_before (reverse xs) (x ∷ []) b) i j d (omega arith) (omega arith)

  -- those above an item, by a test p, stand in front of those that aren't
  pub partitioned : (p : X → Bool) (xs : List X) (item : X) → ((y : X) → goes_before y item ≡ not (p y))
      → IsAscendingBy goes_before (reverse xs) → IsPartitionedBy p xs
  partitioned p xs item tells a i j d le lt e =
      let h = descending-places xs a i j d le lt in
      by_bool (p (get_or xs i d)) (λ t. t)
      (λ f.
      let low : goes_before (get_or xs i d) item ≡ true = tells (get_or xs i d) ∙ ap not f in
      let back : goes_before (get_or xs j d) item ≡ true = o.trans _ _ _ h low in
      let not_low : goes_before (get_or xs j d) item ≡ false = tells (get_or xs j d) ∙ ap not e in
      cc)

  -- a push: in a descending list the item stands behind those above it
  pub pushed : (xs : List X) (n : ℕ) (x : X) → AllByRecursion (λ y. goes_before y x ≡ false) (take n xs)
      → AllByRecursion (λ y. goes_before y x ≡ true) (drop n xs) → reverse (take n xs ++ x ∷ drop n xs) ≡ with_item_by goes_before x (reverse xs)
  pushed xs n x above rest =
      let lows = all-reverse (λ y. goes_before y x ≡ true) (drop n xs) rest in
      let highs = all-reverse (λ y. goes_before y x ≡ false) (take n xs) above in
      let parts : reverse xs ≡ reverse (drop n xs) ++ reverse (take n xs) =
      ap reverse (sym (take-append-drop n xs)) ∙ reverse-append (take n xs) (drop n xs) in
      let whole : reverse (take n xs ++ x ∷ drop n xs) ≡ reverse (drop n xs) ++ x ∷ reverse (take n xs) =
      reverse-append (take n xs) (x ∷ drop n xs) ∙ ap (λ (ys : List X). ys ++ reverse (take n xs)) (reverse-cons x (drop n xs))
      ∙ append_assoc (reverse (drop n xs)) (x ∷ []) (reverse (take n xs)) in
      whole ∙ sym (with_item-between goes_before x (reverse (drop n xs)) (reverse (take n xs)) lows highs)
      ∙ ap (with_item_by goes_before x) (sym parts)

  -- an item put into a content leaves it ascending
  pub pushed_ascends : (x : X) (xs : List X) → IsAscendingBy goes_before xs → IsAscendingBy goes_before (with_item_by goes_before x xs)
  pushed_ascends = with_item-ascending goes_before o.total o.trans
