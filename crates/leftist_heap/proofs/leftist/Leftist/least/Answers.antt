use Rattle.std.proofs.Common.{sym, ◌∙◌, ap}
use Rattle.leftist_heap.specs.Store.{first_of}
use Rattle.leftist_heap.specs.Order.{not_above_by}
use Rattle.leftist_heap.specs.Tree.{Heap}
use Rattle.leftist_heap.proofs.Orders.{exact_order}
use Rattle.leftist_heap.proofs.Heaps.{content_at_root}
use Rattle.leftist_heap.proofs.leftist.Leftist.least.Goals as goal

pub returns-in-Some : goal.returns-in-Some
returns-in-Some g c =
    let o = exact_order g.T.Ord.cmp g.met.T.Ord.total g.met.T.Exact.equal_is_same in
    let whole = content_at_root (not_above_by g.T.Ord.cmp) o c.self.inside.root c.in-Some.node c.deref.result.now c.in-Some.is
    c.deref.ensures c.self.invariant.0 in
    sym (ap (λ (h : Heap _). first_of h.items) c.self.view_is) ∙ ap first_of whole
