-- What a merge of two leftist heaps makes, step by step: these words stand in no public contract.
use Rattle.std.specs.Prelude.{◌≡◌, ◌+◌, Bool, nat_lt, if◌then◌else◌, ◌⊎◌}
use Rattle.leftist_heap.specs.Order.{with_items_by}
use Rattle.leftist_heap.specs.Tree.{Tree, nothing, node, items_of, rank_of, content_of, IsUnder, IsLawful}

-- c and d are a and b, in this order or the other
abbrev pub AreTheTwo : {X : Type 0} → X → X → X → X → Type 0
AreTheTwo a b c d = ((c ≡ a) × (d ≡ b)) ⊎ ((c ≡ b) × (d ≡ a))

-- the left child, or nothing
abbrev pub left_of : {X : Type 0} → Tree X → Tree X
left_of nothing = nothing
left_of (node item kept left right) = left

-- the right child, or nothing
abbrev pub right_of : {X : Type 0} → Tree X → Tree X
right_of nothing = nothing
right_of (node item kept left right) = right

-- a node of this item over two trees, that of greater rank on the left, which keeps its rank
abbrev pub joined : {X : Type 0} → X → Tree X → Tree X → Tree X
joined item a b = if nat_lt (rank_of a) (rank_of b) then node item (1 + rank_of a) b a else node item (1 + rank_of b) a b

-- the tree with its root's children in the right order, and the root's rank renewed
abbrev pub settled : {X : Type 0} → Tree X → Tree X
settled nothing = nothing
settled (node item kept left right) = joined item left right

-- the heap m has the items of a and b together
pub record IsMerge {X : Type 0} (goes_before : X → X → Bool) (a b m : Tree X) : Type 0 where
  pub lawful : IsLawful goes_before m
  pub content : content_of goes_before m ≡ with_items_by goes_before (items_of a) (content_of goes_before b)
  -- an item that is above neither root is not above the root of the merge
  pub under : (x : X) → IsUnder goes_before x a → IsUnder goes_before x b → IsUnder goes_before x m
