use Rattle.std.proofs.Common.{sym, ◌∙◌, ap, length, arith}
use Rattle.leftist_heap.specs.Order.{not_above_by}
use Rattle.leftist_heap.specs.Tree.{Heap}
use Rattle.leftist_heap.specs.Node.{tree_of}
use Rattle.leftist_heap.proofs.Heaps.{length-content}
use Rattle.leftist_heap.proofs.Ranks.{power_of_rank, low_rank}
use Rattle.leftist_heap.proofs.leftist.Leftist.rank.Goals as goal

pub returns-clause-log : goal.returns-clause-log
returns-clause-log g c =
    let size = sym (length-content (not_above_by g.T.Ord.cmp) (tree_of c.self.inside.root)) ∙ ap (λ (h : Heap _). length h.items) c.self.view_is in
    let power = power_of_rank (tree_of c.self.inside.root) c.self.invariant.0.leftist in
    rw c.rank.ensures (omega arith)

pub returns-clause-limit : goal.returns-clause-limit
returns-clause-limit g c = rw c.rank.ensures (low_rank (tree_of c.self.inside.root) c.self.invariant.0.leftist (omega arith))
