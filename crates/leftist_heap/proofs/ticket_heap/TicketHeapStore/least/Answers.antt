use Rattle.std.proofs.Common.{◌∙◌, ap, slice_get}
use Rattle.leftist_heap.specs.Store.{first_of}
use Rattle.leftist_heap.specs.Order.{not_above_by}
use Rattle.leftist_heap.specs.Holding.{Holding}
use Rattle.leftist_heap.proofs.Orders.{exact_order}
use Rattle.leftist_heap.proofs.ByRank.{heap_in_order}
use Rattle.leftist_heap.proofs.Arrays.{content-first, first_seen}
use Rattle.leftist_heap.proofs.ticket_heap.TicketHeapStore.least.Goals as goal

pub returns : goal.returns
returns g c =
    let o = exact_order g.T.Ord.cmp g.met.T.Ord.total g.met.T.Exact.equal_is_same in
    first_seen c.first.result c.args.self.now.items
    (c.first.ensures.value ∙ ap (λ l. slice_get l 0) c.deref.ensures.value
    ∙ content-first (not_above_by g.T.Ord.cmp) o c.self.inside.heap.items
    (heap_in_order g.T.Exact.rank_of g.T.Ord.cmp c.self.inside.heap.items c.self.invariant.ranked c.self.invariant.heap) ∙ ap (λ (s : Holding _). first_of s.items) c.self.view_is)
