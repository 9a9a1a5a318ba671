-- Ascending lists in the order of any type: the order that a comparison makes, and a list with
-- several items put in.
use Rattle.std.specs.Prelude.{◌≡◌, ℕ, ◌≤◌, Bool, true, not, nat_lt, if◌then◌else◌, List, [], ◌∷◌}
use Rattle.std.specs.List.{AllByRecursion, Contains}
use Rattle.std.specs.Ordering.{is_gt}
use Rattle.std.specs.declared.cmp.Ordering.{Ordering}

-- A queue of any items: goes_before x y says that x may stand before y.
module _ {X : Type 0} (goes_before : X → X → Bool) where
  -- each item may stand before all behind it
  abbrev pub IsAscendingBy : List X → Type 0
  IsAscendingBy [] = Unit {0}
  IsAscendingBy (x ∷ xs) = AllByRecursion (λ y. goes_before x y ≡ true) xs × IsAscendingBy xs

  -- the list with x behind every item that may stand before it
  abbrev pub with_item_by : X → List X → List X
  with_item_by x [] = x ∷ []
  with_item_by x (y ∷ ys) = if goes_before y x then y ∷ with_item_by x ys else x ∷ y ∷ ys

-- by this comparison x is not above y, so it may stand before y
abbrev pub not_above_by : {X : Type 0} → (X → X → Ordering) → X → X → Bool
not_above_by cmp x y = not (is_gt (cmp x y))

-- the list with each of the items xs put in
abbrev pub with_items_by : {X : Type 0} → (X → X → Bool) → List X → List X → List X
with_items_by goes_before [] ys = ys
with_items_by goes_before (x ∷ xs) ys = with_item_by goes_before x (with_items_by goes_before xs ys)

-- by this rank x is not above y
abbrev pub by_rank : {X : Type 0} → (X → ℕ) → X → X → Bool
by_rank rank_of x y = not (nat_lt (rank_of y) (rank_of x))

module _ {X : Type 0} (cmp : X → X → Ordering) (rank_of : X → ℕ) where
  -- where the rank of x is not above that of y, x may stand before y
  abbrev pub IsRanked : X → X → Type 0
  IsRanked x y = rank_of x ≤ rank_of y → not_above_by cmp x y ≡ true

  -- the ranks put x and each of the items in their order
  abbrev pub IsRankedAmong : X → List X → Type 0
  IsRankedAmong x = AllByRecursion (λ y. IsRanked x y × IsRanked y x)

  -- the ranks put any two of the items in their order
  abbrev pub AreRanked : List X → Type 0
  AreRanked xs = (x y : X) → Contains xs x → Contains xs y → IsRanked x y
