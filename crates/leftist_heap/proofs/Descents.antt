-- One step of a merge, in boxes: the heap with the lower root takes the other into its right child.
use Rattle.std.proofs.Common.{◌≡◌, ◌+◌, ◌<◌, ◌^◌, length, Some, ap, subst, sym, ◌∙◌, Box, Option, Bool}
use Rattle.leftist_heap.specs.Tree.{Tree, node, items_of, IsUnder, IsLawful}
use Rattle.leftist_heap.specs.Merge.{settled, joined, IsMerge, AreTheTwo}
use Rattle.leftist_heap.specs.declared.node.Node.{Node, out-Node}
use Rattle.leftist_heap.specs.declared.node.Node.TheViews.{roll-Node}
use Rattle.leftist_heap.specs.Node.{tree_at, tree_of}
use Rattle.leftist_heap.proofs.Nodes.{tree_at_fields, tree_at_made}
use Rattle.leftist_heap.proofs.Orders.{IsExactOrder}
use Rattle.leftist_heap.proofs.Merges.{IsDescent, descent, map-of_two, merge-of_two, merge-below}

module _ {T A : Type 0} (goes_before : T → T → Bool) where
  -- first is the heap's root and other the other one; top is the lower of them, and beside the one
  -- that isn't
  pub two_trees : (heap : Option (Box (Node T A) A)) (first other top beside : Box (Node T A) A) → heap ≡ Some first
      → AreTheTwo first other top beside → AreTheTwo (tree_of heap) (tree_at other.value) (tree_at top.value) (tree_at beside.value)
  two_trees heap first other top beside is two =
      subst (λ (h : Option (Box (Node T A) A)). AreTheTwo (tree_of h) (tree_at other.value) (tree_at top.value) (tree_at beside.value))
      (sym is) (map-of_two (λ x. tree_at x.value) first other top beside two)

  -- n is the node in top
  pub boxes : (heap : Option (Box (Node T A) A)) (first other top beside : Box (Node T A) A) (n : Node T A) → heap ≡ Some first
      → AreTheTwo first other top beside → n ≡ top.value → IsLawful goes_before (tree_of heap) → IsLawful goes_before (tree_at other.value)
      → length (items_of (tree_of heap)) + length (items_of (tree_at other.value)) < 2 ^ 32
      → IsDescent goes_before (tree_of heap) (tree_at other.value) (out-Node T A n).item (out-Node T A n).rank
      (tree_of (out-Node T A n).left) (tree_of (out-Node T A n).right) (tree_at beside.value)
  boxes heap first other top beside n is two at p q few =
      descent goes_before (tree_of heap) (tree_at other.value) (tree_at top.value) (tree_at beside.value) _ _ _ _
      (two_trees heap first other top beside is two) (ap tree_at (sym at) ∙ tree_at_fields n) p q few

  -- the node n with another right child
  pub with_right : (n m : Node T A) (right : Option (Box (Node T A) A))
      → m ≡ roll-Node T A (record { item = (out-Node T A n).item; rank = (out-Node T A n).rank; left = (out-Node T A n).left; right = right })
      → tree_at m ≡ node (out-Node T A n).item (out-Node T A n).rank (tree_of (out-Node T A n).left) (tree_of right)
  with_right n m right e =
      ap tree_at e ∙ tree_at_made (record { item = (out-Node T A n).item; rank = (out-Node T A n).rank; left = (out-Node T A n).left; right = right })

  -- the whole step, with the node after it
  pub descended : IsExactOrder goes_before
      → (heap : Option (Box (Node T A) A)) (first other top beside : Box (Node T A) A) (n m after : Node T A)
      (right : Option (Box (Node T A) A)) → heap ≡ Some first → AreTheTwo first other top beside → n ≡ top.value
      → IsDescent goes_before (tree_of heap) (tree_at other.value) (out-Node T A n).item (out-Node T A n).rank
      (tree_of (out-Node T A n).left) (tree_of (out-Node T A n).right) (tree_at beside.value)
      → IsUnder goes_before (out-Node T A top.value).item (tree_at beside.value)
      → IsMerge goes_before (tree_of (out-Node T A n).right) (tree_at beside.value) (tree_of right)
      → tree_at m ≡ node (out-Node T A n).item (out-Node T A n).rank (tree_of (out-Node T A n).left) (tree_of right)
      → tree_at after ≡ settled (tree_at m)
      → IsMerge goes_before (tree_of heap) (tree_at other.value) (tree_at after)
  descended o heap first other top beside n m after right is two at d under merged made done =
      let N = out-Node T A n in
      let low : IsUnder goes_before N.item (tree_at beside.value) =
      subst (λ (x : Node T A). IsUnder goes_before (out-Node T A x).item (tree_at beside.value)) (sym at) under in
      let step : IsMerge goes_before (node N.item N.rank (tree_of N.left) (tree_of N.right)) (tree_at beside.value)
      (joined N.item (tree_of N.left) (tree_of right)) =
      merge-below goes_before o N.item N.rank (tree_of N.left) (tree_of N.right) (tree_at beside.value) (tree_of right) d.top low merged in
      let result : tree_at after ≡ joined N.item (tree_of N.left) (tree_of right) = done ∙ ap settled made in
      let root : tree_at top.value ≡ node N.item N.rank (tree_of N.left) (tree_of N.right) = ap tree_at (sym at) ∙ tree_at_fields n in
      merge-of_two goes_before o (tree_of heap) (tree_at other.value) (tree_at top.value) (tree_at beside.value) (tree_at after)
      (two_trees heap first other top beside is two)
      (subst (λ (t : Tree T). IsMerge goes_before t (tree_at beside.value) (tree_at after)) (sym root)
      (subst (λ (t : Tree T). IsMerge goes_before (node N.item N.rank (tree_of N.left) (tree_of N.right)) (tree_at beside.value) t)
      (sym result) step))
