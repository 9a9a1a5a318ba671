-- A trail scan as code stores it: a diagonal, which of its rows are still to be read, and in which of
-- its rows a closed door was found.
use Rattle.std.specs.Prelude.{◌≡◌, ◌≢◌, ◌↔◌, ℕ, ◌+◌, ◌<◌, ◌≤◌, Bool, true, ◌⊎◌, List, [], ◌∷◌}
use Rattle.split_core.specs.Trail.{Spot, Trail, trail_start, lists, led_to}

-- a closed door in one of these rows leads to this row of the next diagonal: right of it, or below
abbrev pub LedFrom : (ℕ → Type 0) → ℕ → Type 0
LedFrom shut r = shut r ⊎ ((q : ℕ) × (q + 1 ≡ r) × shut q)

-- These places are the rows `unread` of diagonal d, and in a grid of n comers the rows of the next
-- diagonal to which the rows `shut` of this one lead.
abbrev pub AreRows : ℕ → ℕ → (ℕ → Type 0) → (ℕ → Type 0) → List Spot → Type 0
AreRows n d unread shut places =
    (r c : ℕ) → (lists r c places ≡ true) ↔ (((r + c ≡ d) × unread r) ⊎ ((r + c ≡ d + 1) × (d + 1 < n) × LedFrom shut r))

-- the rows whose bit is set
abbrev pub Are : (ℕ → Bool) → ℕ → Type 0
Are bits r = bits r ≡ true

-- The stored form of the trail z goes on as z does, whatever the words read: the next place is in the
-- least unread row; when its door was read the row is no longer unread, and is one of `shut` where it
-- was closed; where no row is unread the next diagonal comes, or the trail is over.
pub record RowsFollow (n : ℕ) (z : Trail) : Type 0 where
  pub first : (d : ℕ) (unread shut : ℕ → Bool) (p : Spot) (rest : List Spot) (q : ℕ)
      → AreRows n d (Are unread) (Are shut) z.ahead → z.ahead ≡ p ∷ rest → q ≤ d → Are unread q
      → (p.row + p.column ≡ d) × Are unread p.row × ((r : ℕ) → r ≤ d → Are unread r → p.row ≤ r)
  pub read : (d : ℕ) (unread shut : ℕ → Bool) (p : Spot) (rest : List Spot) (word : ℕ)
      → AreRows n d (Are unread) (Are shut) z.ahead → z.ahead ≡ p ∷ rest → p.row + p.column ≡ d
      → AreRows n d (λ r. Are unread r × (r ≢ p.row)) (λ r. Are shut r ⊎ ((word ≡ 1) × (r ≡ p.row))) (led_to n p word rest)
  pub next : (d : ℕ) (unread shut : ℕ → Bool) → AreRows n d (Are unread) (Are shut) z.ahead → ((r : ℕ) → r ≤ d → ¬ Are unread r)
      → d + 1 < n
      → AreRows n (d + 1) (LedFrom (Are shut)) (λ _. ⊥) z.ahead
  pub over : (d : ℕ) (unread shut : ℕ → Bool) → AreRows n d (Are unread) (Are shut) z.ahead → ((r : ℕ) → r ≤ d → ¬ Are unread r)
      → ((r : ℕ) → r ≤ d + 1 → d + 1 < n → ¬ LedFrom (Are shut) r) → z.ahead ≡ []

-- a new trail is at the first row of the first diagonal
abbrev pub StartsAtRow : ℕ → Type 0
StartsAtRow n = AreRows n 0 (λ r. r ≡ 0) (λ _. ⊥) trail_start.ahead
