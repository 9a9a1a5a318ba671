-- Each step goes down from one of the two roots.
use Rattle.std.proofs.Common.{◌+◌, length}
use Rattle.leftist_heap.specs.Tree.{items_of}
use Rattle.leftist_heap.specs.Node.{tree_at, tree_of}
use Rattle.leftist_heap.proofs.node.+merge_into.Given as goal

abbrev pub decreases-merge_into : goal.decreases-merge_into
decreases-merge_into g l = length (items_of (tree_of l.heap.now)) + length (items_of (tree_at l.other.value))
