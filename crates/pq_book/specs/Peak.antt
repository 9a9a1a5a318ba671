-- The peak of a queue: the most items that waited at once.
use Rattle.std.specs.Prelude.{◌≡◌, ℕ, ◌≤◌, List, [], ◌∷◌, ◌++◌, length, take}
use Rattle.pq_types.specs.Asked.{Line}
use Rattle.pq_types.specs.History.{left}

-- the greatest number of items that the journal, or any beginning of it, leaves in the queue
pub record IsPeak (journal : List Line) (peak : ℕ) : Type 0 where
  pub bound : (k : ℕ) → length (left (take k journal)) ≤ peak
  pub reached : (k : ℕ) × (length (left (take k journal)) ≡ peak)

-- neither the journal nor any beginning of it leaves more items than the bound
abbrev pub KeepsBound : ℕ → List Line → Type 0
KeepsBound bound journal = (k : ℕ) → length (left (take k journal)) ≤ bound

-- Whatever journal had the peak `before`: with a line more, which leaves so many items, it has this peak.
abbrev pub IsPeakWith : (before items peak : ℕ) → Type 0
IsPeakWith before items peak =
    (journal : List Line) (line : Line) → IsPeak journal before → items ≡ length (left (journal ++ line ∷ []))
    → IsPeak (journal ++ line ∷ []) peak
