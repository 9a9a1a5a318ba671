-- The tree that a chain of boxed nodes is: where each box lies makes no difference.
use Rattle.std.specs.Prelude.{Option, Some, None, Box}
use Rattle.leftist_heap.specs.Tree.{Tree, nothing, node}
use Rattle.leftist_heap.specs.declared.node.Node.{Node, Node', Held-Node-left, None', Some'}

abbrev mutual
  -- the tree below and with this node
  pub tree_at : {T A : Type 0} → Node T A → Tree T
  tree_at (Node' item rank left right) = node item rank (tree_behind left) (tree_behind right)

  -- the tree that a node holds as its child
  pub tree_behind : {T A : Type 0} → Held-Node-left T A → Tree T
  tree_behind None' = nothing
  tree_behind (Some' place n) = tree_at n

-- the tree whose root, where there is one, is in this box
abbrev pub tree_of : {T A : Type 0} → Option (Box (Node T A) A) → Tree T
tree_of None = nothing
tree_of (Some b) = tree_at b.value
