-- What contracts see of a heap in an array.
use Rattle.std.specs.Prelude.{ℕ, Bool, List, []}
use Rattle.leftist_heap.specs.Order.{with_items_by}

-- The ascending list of its items, and for how many items the array has room.
pub record Holding (X : Type 0) : Type 0 where
  pub items : List X
  pub room : ℕ

-- the heap in an array of this room that has these items, in whatever order
abbrev pub holding : {X : Type 0} → (X → X → Bool) → List X → ℕ → Holding X
holding goes_before kept room = record { items = with_items_by goes_before kept []; room = room }
