-- A heap in an array whose places have eight below them.
use Rattle.std.specs.Prelude.{◌≡◌, ℕ, ◌+◌, ◌/◌, ◌<◌, ◌≤◌, ◌≢◌, ◌⊎◌, Bool, true, false, List, length, slice_index_or}

-- the place above k: those from 8 i - 6 to 8 i + 1 are below i, and below 0 only 1
abbrev pub place_above : ℕ → ℕ
place_above k = (k + 6) / 8

module _ {X : Type 0} (goes_before : X → X → Bool) where
  -- the item at i may stand before the one at k
  abbrev pub StandsBefore : List X → ℕ → ℕ → Type 0
  StandsBefore xs i k = (d : X) → goes_before (slice_index_or xs i d) (slice_index_or xs k d) ≡ true

  -- each item may stand after the one above it
  abbrev pub IsHeapBy : List X → Type 0
  IsHeapBy xs = (k : ℕ) → 0 < k → k < length xs → StandsBefore xs (place_above k) k

  -- each item below j may stand after the one above j
  abbrev pub IsSpanned : List X → ℕ → Type 0
  IsSpanned xs j = (k : ℕ) → 0 < j → 0 < k → k < length xs → place_above k ≡ j → StandsBefore xs (place_above j) k

  -- a heap, but that the item at j may have to stand before the one above it
  pub record IsRising (xs : List X) (j : ℕ) : Type 0 where
    pub others : (k : ℕ) → 0 < k → k < length xs → (k ≢ j) → StandsBefore xs (place_above k) k
    pub spanned : IsSpanned xs j

  -- a heap, but for the item at j
  pub record IsSinking (xs : List X) (j : ℕ) : Type 0 where
    pub others : (k : ℕ) → 0 < k → k < length xs → (k ≢ j) → (place_above k ≢ j) → StandsBefore xs (place_above k) k
    pub spanned : IsSpanned xs j

  -- by this answer x may stand before y, or else y before x
  abbrev pub Compares : X → X → Bool → Type 0
  Compares x y answer = ((answer ≡ true) × (goes_before x y ≡ true)) ⊎ ((answer ≡ false) × (goes_before y x ≡ true))

  -- z at k is the one of x at i and y at j that may stand before the other
  abbrev pub IsLowerSpot : ℕ → X → ℕ → X → ℕ → X → Type 0
  IsLowerSpot i x j y k z = ((k ≡ i) × (z ≡ x) × (goes_before x y ≡ true)) ⊎ ((k ≡ j) × (z ≡ y) × (goes_before y x ≡ true))

  -- of the items from low on and before high the one at r is the lowest
  pub record IsLowest (xs : List X) (low high r : ℕ) : Type 0 where
    pub within : (low ≤ r) × (r < high)
    pub lowest : (k : ℕ) → low ≤ k → k < high → StandsBefore xs r k
