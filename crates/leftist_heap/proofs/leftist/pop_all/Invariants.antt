-- Each turn takes one item out.
use Rattle.std.proofs.Common.{length}
use Rattle.leftist_heap.proofs.leftist.pop_all.Given as goal

abbrev pub decreases-loop-item : goal.decreases-loop-item
decreases-loop-item g l = length l.heap.items
