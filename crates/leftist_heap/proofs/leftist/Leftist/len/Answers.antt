use Rattle.std.proofs.Common.{sym, ◌∙◌, ap, subst, length}
use Rattle.leftist_heap.specs.Order.{IsAscendingBy}
use Rattle.leftist_heap.specs.Order.{not_above_by}
use Rattle.leftist_heap.specs.Tree.{Heap}
use Rattle.leftist_heap.specs.Node.{tree_of}
use Rattle.leftist_heap.proofs.Orders.{exact_order}
use Rattle.leftist_heap.proofs.Heaps.{length-content, content-ascending}
use Rattle.leftist_heap.proofs.leftist.Leftist.len.Goals as goal

pub returns-clause-len : goal.returns-clause-len
returns-clause-len g c =
    c.self.invariant.1 ∙ sym (length-content (not_above_by g.T.Ord.cmp) (tree_of c.self.inside.root))
    ∙ ap (λ (h : Heap _). length h.items) c.self.view_is

pub returns-clause-ascending : goal.returns-clause-ascending
returns-clause-ascending g c =
    subst (λ (h : Heap _). IsAscendingBy (not_above_by g.T.Ord.cmp) h.items) c.self.view_is
    (content-ascending (not_above_by g.T.Ord.cmp) (exact_order g.T.Ord.cmp g.met.T.Ord.total g.met.T.Exact.equal_is_same)
    (tree_of c.self.inside.root))
