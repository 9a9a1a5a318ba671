-- The tree of a node, from its fields.
use Rattle.std.proofs.Common.{◌≡◌, ℕ, Box, Option, Some, None, refl}
use Rattle.leftist_heap.specs.Tree.{node}
use Rattle.leftist_heap.specs.Node.{tree_at, tree_of}
use Rattle.leftist_heap.specs.declared.node.Node.{Node, Node', None', Some'}
use Rattle.leftist_heap.specs.declared.node.Node.TheOpen.{Node-F}
use Rattle.leftist_heap.specs.declared.node.Node.TheViews.{out-Node, roll-Node}

module _ {T A : Type 0} where
  made : (item : T) (rank : ℕ) (left right : Option (Box (Node T A) A))
      → tree_at (roll-Node T A (record { item = item; rank = rank; left = left; right = right })) ≡ node item rank (tree_of left) (tree_of right)
  unfolding roll-Node denote.Hole.Carrier.roll
  made item rank None None = refl
  made item rank None (Some b) = refl
  made item rank (Some a) None = refl
  made item rank (Some a) (Some b) = refl

  -- of a node that is made of its fields
  pub tree_at_made : (fields : Node-F T A (Node T A))
      → tree_at (roll-Node T A fields) ≡ node fields.item fields.rank (tree_of fields.left) (tree_of fields.right)
  tree_at_made fields = made fields.item fields.rank fields.left fields.right

  -- of a node that is taken apart
  pub tree_at_fields : (n : Node T A)
      → tree_at n ≡ node (out-Node T A n).item (out-Node T A n).rank (tree_of (out-Node T A n).left) (tree_of (out-Node T A n).right)
  unfolding out-Node denote.Hole.Carrier.out
  tree_at_fields (Node' item rank None' None') = refl
  tree_at_fields (Node' item rank None' (Some' q n)) = refl
  tree_at_fields (Node' item rank (Some' p m) None') = refl
  tree_at_fields (Node' item rank (Some' p m) (Some' q n)) = refl
