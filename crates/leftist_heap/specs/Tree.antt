-- Leftist heaps (Crane 1972; Knuth, volume 3; Okasaki 1998) as trees, and what contracts see of
-- one.
use Rattle.std.specs.Prelude.{◌≡◌, ℕ, ◌+◌, ◌≤◌, Bool, true, List, [], ◌∷◌, ◌++◌}
use Rattle.leftist_heap.specs.Order.{with_items_by}

-- a tree of items; the number is what the node keeps as its rank
pub data Tree (X : Type 0) : Type 0 where
  nothing : Tree X
  node : (item : X) (kept : ℕ) (left right : Tree X) → Tree X

-- each item as often as the tree has it
abbrev pub items_of : {X : Type 0} → Tree X → List X
items_of nothing = []
items_of (node item kept left right) = item ∷ (items_of left ++ items_of right)

-- the rank of nothing is 0, that of a node is 1 more than that of its right child
abbrev pub rank_of : {X : Type 0} → Tree X → ℕ
rank_of nothing = 0
rank_of (node item kept left right) = 1 + rank_of right

-- the sum of the ranks of the root's two children
abbrev pub ranks_below : {X : Type 0} → Tree X → ℕ
ranks_below nothing = 0
ranks_below (node item kept left right) = rank_of left + rank_of right

-- every left rank is no less than the right rank, and every rank that is kept is true
abbrev pub IsLeftist : {X : Type 0} → Tree X → Type 0
IsLeftist nothing = Unit {0}
IsLeftist (node item kept left right) =
    (kept ≡ 1 + rank_of right) × (rank_of right ≤ rank_of left) × IsLeftist left × IsLeftist right

module _ {X : Type 0} (goes_before : X → X → Bool) where
  -- the item may stand before the root's, where there is a root
  abbrev pub IsUnder : X → Tree X → Type 0
  IsUnder x nothing = Unit {0}
  IsUnder x (node item kept left right) = goes_before x item ≡ true

  -- no node's item is above an item of its children
  abbrev pub IsHeapOrdered : Tree X → Type 0
  IsHeapOrdered nothing = Unit {0}
  IsHeapOrdered (node item kept left right) = IsUnder item left × IsUnder item right × IsHeapOrdered left × IsHeapOrdered right

  -- a lawful leftist heap
  pub record IsLawful (t : Tree X) : Type 0 where
    pub ordered : IsHeapOrdered t
    pub leftist : IsLeftist t

  -- the content: the ascending list that has each item as often as the tree
  abbrev pub content_of : Tree X → List X
  content_of t = with_items_by goes_before (items_of t) []

-- What contracts see of a leftist heap: the ascending list of its items, its rank, and the sum of
-- the ranks of its root's two children.
pub record Heap (X : Type 0) : Type 0 where
  pub items : List X
  pub rank : ℕ
  pub ranks_below : ℕ

-- the heap that a tree is
abbrev pub heap_of : {X : Type 0} → (X → X → Bool) → Tree X → Heap X
heap_of goes_before t = record { items = content_of goes_before t; rank = rank_of t; ranks_below = ranks_below t }

-- the heap without items
abbrev pub empty_heap : {X : Type 0} → Heap X
empty_heap = record { items = []; rank = 0; ranks_below = 0 }
