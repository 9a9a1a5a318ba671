-- What the content of a lawful heap says of its tree.
use Rattle.std.proofs.Common.{◌≡◌, ◌+◌, ◌≤◌, ◌<◌, ◌^◌, Bool, [], ◌∷◌, length, Option, Some, None, Box, refl, sym, ◌∙◌, ap, subst, arith}
use Rattle.std.proofs.lemmas.List.{length-append}
use Rattle.leftist_heap.specs.Order.{IsAscendingBy, with_item_by}
use Rattle.leftist_heap.specs.Order.{with_items_by}
use Rattle.leftist_heap.specs.Tree.{Tree, Heap, heap_of, empty_heap, nothing, node, items_of, content_of, rank_of}
use Rattle.leftist_heap.specs.Tree.{ranks_below, IsHeapOrdered, IsLeftist, IsLawful}
use Rattle.leftist_heap.specs.Merge.{IsMerge}
use Rattle.leftist_heap.specs.declared.node.Node.{Node, out-Node}
use Rattle.leftist_heap.specs.Node.{tree_at, tree_of}
use Rattle.leftist_heap.proofs.Orders.{IsExactOrder}
use Rattle.leftist_heap.proofs.Contents.{length-with_items, with_items-ascending, with_items-comm, with_items-sorted}
use Rattle.leftist_heap.proofs.Ranks.{low_rank}
use Rattle.leftist_heap.proofs.Merges.{content-root, merge-swapped, length-merge}
use Rattle.leftist_heap.proofs.Nodes.{tree_at_fields}

module _ {X : Type 0} (goes_before : X → X → Bool) where
  pub length-content : (t : Tree X) → length (content_of goes_before t) ≡ length (items_of t)
  length-content t = omega (arith, length-with_items goes_before (items_of t) [])

  pub content-ascending : IsExactOrder goes_before → (t : Tree X) → IsAscendingBy goes_before (content_of goes_before t)
  content-ascending o t = with_items-ascending goes_before o (items_of t) [] tt

  -- of a heap that contracts see
  pub size_seen : (t : Tree X) (h : Heap X) → heap_of goes_before t ≡ h → length (items_of t) ≡ length h.items
  size_seen t h e = sym (length-content t) ∙ ap (λ (g : Heap X). length g.items) e

  -- a push merges with one node
  pub content_pushed : IsExactOrder goes_before → (a b m : Tree X) (x : X) → b ≡ node x 1 nothing nothing → IsMerge goes_before a b m
      → content_of goes_before m ≡ with_item_by goes_before x (content_of goes_before a)
  content_pushed o a b m x is h =
      (merge-swapped goes_before o a b m h).content ∙ ap (λ (t : Tree X). with_items_by goes_before (items_of t) (content_of goes_before a)) is

  pub size_pushed : (a b m : Tree X) (x : X) → b ≡ node x 1 nothing nothing → IsMerge goes_before a b m
      → length (items_of m) ≡ length (items_of a) + 1
  size_pushed a b m x is h =
      let one : length (items_of b) ≡ 1 = ap (λ (t : Tree X). length (items_of t)) is in omega (arith, length-merge goes_before a b m h)

  -- the items of one heap put into another are its content put in
  pub content_absorbed : IsExactOrder goes_before → (a b m : Tree X)
      → content_of goes_before m ≡ with_items_by goes_before (items_of a) (content_of goes_before b)
      → content_of goes_before m ≡ with_items_by goes_before (content_of goes_before b) (content_of goes_before a)
  content_absorbed o a b m h =
      h ∙ with_items-comm goes_before o (items_of a) (items_of b) [] ∙ sym (with_items-sorted goes_before o (items_of b) (content_of goes_before a))

  pub size_absorbed : (a b m : Tree X) → content_of goes_before m ≡ with_items_by goes_before (items_of a) (content_of goes_before b)
      → length (items_of m) ≡ length (items_of a) + length (items_of b)
  size_absorbed a b m h =
      let whole : length (content_of goes_before m) ≡ length (with_items_by goes_before (items_of a) (content_of goes_before b)) = ap length h in
      omega (arith, length-content m, length-content b, length-with_items goes_before (items_of a) (content_of goes_before b))

  -- a pop leaves one item less
  pub size_popped : (t u : Tree X) (x : X) → content_of goes_before t ≡ x ∷ content_of goes_before u → length (items_of t) ≡ length (items_of u) + 1
  size_popped t u x e =
      let whole : length (content_of goes_before t) ≡ length (x ∷ content_of goes_before u) = ap length e in
      omega (arith, length-content t, length-content u)

  -- the ranks of the root's children are low
  pub low_ranks_below : (t : Tree X) → IsLeftist t → length (items_of t) < 2 ^ 32 → ranks_below t ≤ 64
  low_ranks_below nothing h few = omega arith
  low_ranks_below (node item kept l r) h few =
      let parts = length-append (items_of l) (items_of r) in
      let left = low_rank l h.2 (omega arith) in
      let right = low_rank r h.3 (omega arith) in
      omega arith

module _ {T A : Type 0} (goes_before : T → T → Bool) where
  -- the root's item is the first, and its children have the rest
  pub content_at_root : IsExactOrder goes_before → (heap : Option (Box (Node T A) A)) (root : Box (Node T A) A) (n : Node T A)
      → heap ≡ Some root → n ≡ root.value → IsLawful goes_before (tree_of heap)
      → content_of goes_before (tree_of heap)
      ≡ (out-Node T A n).item ∷ with_items_by goes_before (items_of (tree_of (out-Node T A n).left))
      (content_of goes_before (tree_of (out-Node T A n).right))
  content_at_root o heap root n is at lawful =
      let N = out-Node T A n in
      let tree : tree_of heap ≡ node N.item N.rank (tree_of N.left) (tree_of N.right) = ap tree_of is ∙ ap tree_at (sym at) ∙ tree_at_fields n in
      let ordered : IsHeapOrdered goes_before (node N.item N.rank (tree_of N.left) (tree_of N.right)) =
      subst (IsHeapOrdered goes_before) tree lawful.ordered in
      ap (content_of goes_before) tree ∙ content-root goes_before o N.item N.rank (tree_of N.left) (tree_of N.right) ordered

  -- the heap without items has no root
  pub no_root : (heap : Option (Box (Node T A) A)) → heap_of goes_before (tree_of heap) ≡ empty_heap → heap ≡ None
  no_root None e = refl
  no_root (Some b) e =
      let rank : rank_of (tree_at b.value) ≡ 0 = ap (λ (h : Heap T). h.rank) e in
      let above : rank_of (tree_at b.value) ≡ 1 + rank_of (tree_of (out-Node T A b.value).right) = ap rank_of (tree_at_fields b.value) in
      absurd (omega arith)

-- a heap whose root was taken, and of whose root's children the left one stands in its place
module _ {T A : Type 0} (goes_before : T → T → Bool) (heap left : Option (Box (Node T A) A)) (root : Box (Node T A) A) (n : Node T A)
    (is : heap ≡ Some root) (at : n ≡ root.value) (put : left ≡ (out-Node T A n).left) where
  at_root : tree_of heap ≡ node (out-Node T A n).item (out-Node T A n).rank (tree_of left) (tree_of (out-Node T A n).right)
  at_root =
      let N = out-Node T A n in
      ap tree_of is ∙ ap tree_at (sym at) ∙ tree_at_fields n ∙ ap (λ h. node N.item N.rank (tree_of h) (tree_of N.right)) (sym put)

  pub children_lawful : IsLawful goes_before (tree_of heap) → IsLawful goes_before (tree_of left) × IsLawful goes_before (tree_of (out-Node T A n).right)
  children_lawful lawful =
      let N = out-Node T A n in
      let ordered : IsHeapOrdered goes_before (node N.item N.rank (tree_of left) (tree_of N.right)) = subst (IsHeapOrdered goes_before) at_root lawful.ordered in
      let leftist : IsLeftist (node N.item N.rank (tree_of left) (tree_of N.right)) = subst IsLeftist at_root lawful.leftist in
      (record { ordered = ordered.2; leftist = leftist.2 }, record { ordered = ordered.3; leftist = leftist.3 })

  pub children_few : length (items_of (tree_of heap)) < 2 ^ 32 → length (items_of (tree_of left)) + length (items_of (tree_of (out-Node T A n).right)) < 2 ^ 32
  children_few few = omega (arith, few, ap (λ (t : Tree T). length (items_of t)) at_root, length-append (items_of (tree_of left)) (items_of (tree_of (out-Node T A n).right)))

  pub children_ranks : ranks_below (tree_of heap) ≡ rank_of (tree_of left) + rank_of (tree_of (out-Node T A n).right)
  children_ranks = ap ranks_below at_root

  pub content_taken : IsExactOrder goes_before → IsLawful goes_before (tree_of heap) → (new : Option (Box (Node T A) A))
      → content_of goes_before (tree_of new) ≡ with_items_by goes_before (items_of (tree_of left)) (content_of goes_before (tree_of (out-Node T A n).right))
      → content_of goes_before (tree_of heap) ≡ (out-Node T A n).item ∷ content_of goes_before (tree_of new)
  content_taken o lawful new rest =
      let N = out-Node T A n in
      content_at_root goes_before o heap root n is at lawful
      ∙ ap (λ h. N.item ∷ with_items_by goes_before (items_of (tree_of h)) (content_of goes_before (tree_of N.right))) (sym put)
      ∙ ap (λ xs. N.item ∷ xs) (sym rest)
