-- Items that ranks put in their order.
use Rattle.std.proofs.Common.{◌≡◌, ◌≤◌, ltb, ℕ, zero, suc, Bool, true, false, not, List, [], ◌∷◌, get_or, sym, ◌∙◌, ap, subst, if◌then◌else◌, arith}
use borrow.Author.Tests.{ltb-true, ltb-false}
use Rattle.std.specs.List.{AllByRecursion, Contains}
use Rattle.std.specs.List.Sorted.{IsPermutation}
use Rattle.std.specs.declared.cmp.Ordering.{Ordering}
use Rattle.std.proofs.lemmas.List.Elements.{Contains-get_or}
use Rattle.std.proofs.lemmas.List.Sorted.{Contains-permutation, IsPermutation-sym}
use Rattle.leftist_heap.specs.Order.{with_item_by, with_items_by, not_above_by, by_rank, IsRanked, IsRankedAmong, AreRanked}
use Rattle.leftist_heap.specs.Sifting.{place_above, IsHeapBy}
use Rattle.leftist_heap.proofs.Orders.{IsOrder, IsExactOrder, as_order, by_bool, itself}

is_up_to : (a b : ℕ) → not (ltb b a) ≡ true → a ≤ b
is_up_to a b e = by_bool (ltb b a) (λ t. let f : not true ≡ true = sym (ap not t) ∙ e in cc) (λ t. ltb-false b a t)

up_to : (a b : ℕ) → a ≤ b → not (ltb b a) ≡ true
up_to a b h = by_bool (ltb b a) (λ t. let lt = ltb-true b a t in absurd (omega arith)) (λ t. ap not t)

module _ {X : Type 0} (rank_of : X → ℕ) where
  pub not_higher : (x y : X) → by_rank rank_of x y ≡ true → rank_of x ≤ rank_of y
  not_higher x y e = is_up_to (rank_of x) (rank_of y) e

  pub by_ranks : (x y : X) → rank_of x ≤ rank_of y → by_rank rank_of x y ≡ true
  by_ranks x y h = up_to (rank_of x) (rank_of y) h

  pub rank_order : IsOrder (by_rank rank_of)
  rank_order = record {
    total = λ x y e. by_ranks y x (by_bool (ltb (rank_of y) (rank_of x))
        (λ t. let lt = ltb-true (rank_of y) (rank_of x) t in omega arith)
        (λ t. let f : true ≡ false = sym (ap not t) ∙ e in cc));
    trans = λ x y z e f. by_ranks x z (omega (arith, not_higher x y e, not_higher y z f));
  }

  module _ (cmp : X → X → Ordering) where
    -- so a heap by ranks is one by the order
    pub heap_in_order : (xs : List X) → AreRanked cmp rank_of xs → IsHeapBy (by_rank rank_of) xs → IsHeapBy (not_above_by cmp) xs
    heap_in_order xs ranked h k first within d =
        ranked (get_or xs (place_above k) d) (get_or xs k d) (Contains-get_or xs (place_above k) d (omega arith)) (Contains-get_or xs k d within)
        (not_higher _ _ (h k first within d))

    -- and in whatever order they lie
    pub ranked_permuted : (xs ys : List X) → IsPermutation xs ys → AreRanked cmp rank_of xs → AreRanked cmp rank_of ys
    ranked_permuted xs ys p ranked x y in_x in_y =
        let back = IsPermutation-sym xs ys p in
        ranked x y (Contains-permutation ys xs x back in_x) (Contains-permutation ys xs y back in_y)

    behind_first : (x : X) (xs : List X) (y : X) → Contains xs y → Contains (x ∷ xs) y
    behind_first x xs y (k, l, e) = (suc k, omega arith, e)

    pub ranked_without : (x : X) (xs : List X) → AreRanked cmp rank_of (x ∷ xs) → AreRanked cmp rank_of xs
    ranked_without x xs ranked y z in_y in_z = ranked y z (behind_first x xs y in_y) (behind_first x xs z in_z)

    first_or_behind : (P : X → Type 0) (x : X) (xs : List X) → P x → ((y : X) → Contains xs y → P y) → (y : X) → Contains (x ∷ xs) y → P y
    first_or_behind P x xs p h y (zero, l, e) = subst P e p
    first_or_behind P x xs p h y (suc k, l, e) = h y (k, omega arith, e)

    each_of : (P : X → Type 0) (xs : List X) → AllByRecursion P xs → (y : X) → Contains xs y → P y
    each_of P [] h y (k, l, e) = absurd (omega arith)
    each_of P (x ∷ xs) h y c = first_or_behind P x xs h.0 (each_of P xs h.1) y c

    module _ (o : IsExactOrder (not_above_by cmp)) where
      pub ranked_with : (x : X) (xs : List X) → AreRanked cmp rank_of xs → IsRankedAmong cmp rank_of x xs → AreRanked cmp rank_of (x ∷ xs)
      ranked_with x xs ranked new y z in_y in_z =
          first_or_behind (λ v. IsRanked cmp rank_of v z) x xs
          (first_or_behind (IsRanked cmp rank_of x) x xs (λ h. itself (not_above_by cmp) (as_order o) x)
          (λ w c. (each_of _ xs new w c).0) z in_z)
          (λ v c. first_or_behind (IsRanked cmp rank_of v) x xs ((each_of _ xs new v c).1) (λ w. ranked v w c) z in_z)
          y in_y

module _ {X : Type 0} (goes_before : X → X → Bool) where
  put_and_others : (P : X → Type 0) (x : X) (xs : List X) → AllByRecursion P (with_item_by goes_before x xs) → P x × AllByRecursion P xs
  put_and_others P x [] h = h
  put_and_others P x (y ∷ ys) h = at_choice (put_and_others P x ys) (goes_before y x) h where
    at_choice : (AllByRecursion P (with_item_by goes_before x ys) → P x × AllByRecursion P ys) → (b : Bool)
        → AllByRecursion P (if b then y ∷ with_item_by goes_before x ys else x ∷ y ∷ ys) → P x × AllByRecursion P (y ∷ ys)
    at_choice rest true h = let r = rest h.1 in (r.0, (h.0, r.1))
    at_choice rest false h = h

  -- what holds of the content holds of all that was put in
  pub all_of_content : (P : X → Type 0) (xs : List X) → AllByRecursion P (with_items_by goes_before xs []) → AllByRecursion P xs
  all_of_content P [] h = tt
  all_of_content P (x ∷ xs) h =
      let r = put_and_others P x (with_items_by goes_before xs []) h in
      (r.0, all_of_content P xs r.1)
