use Rattle.std.proofs.Common.{sym, ◌∙◌, ap, length, ◌-◌, arith}
use Rattle.leftist_heap.specs.Store.{first_of, rest_of}
use Rattle.leftist_heap.specs.Order.{not_above_by}
use Rattle.leftist_heap.specs.Holding.{Holding}
use Rattle.leftist_heap.proofs.Orders.{exact_order}
use Rattle.leftist_heap.proofs.ByRank.{heap_in_order}
use Rattle.leftist_heap.specs.Depth.{depth_at}
use Rattle.leftist_heap.proofs.Arrays.{length-content}
use Rattle.leftist_heap.proofs.Depths.{shallow}
use Rattle.leftist_heap.proofs.Removals.{content_first, still_ticket_heap}
use Rattle.leftist_heap.proofs.ticket_heap.TicketHeap.pop_counted.Goals as goal

pub invariant_of-self : goal.invariant_of-self
invariant_of-self g c =
    let took = c.take_out-item.ensures in
    still_ticket_heap g.T.Ord.cmp g.T.Exact.rank_of g.T.HasTicket.ticket_of c.self.inside.heap.items c.take_out-item.new.heap.items c.take_out-item.result.0
    took.permutation _ _ _ c.self.invariant took.heap took.placed

pub returns-clause-item : goal.returns-clause-item
returns-clause-item g c =
    let o = exact_order g.T.Ord.cmp g.met.T.Ord.total g.met.T.Exact.equal_is_same in
    let xs = c.self.inside.heap.items in
    let took = c.take_out-item.ensures in
    sym (ap first_of (content_first (not_above_by g.T.Ord.cmp) o xs c.take_out-item.new.heap.items c.take_out-item.result.0 took.permutation took.value
    (heap_in_order g.T.Exact.rank_of g.T.Ord.cmp xs c.self.invariant.ranked c.self.invariant.heap))) ∙ ap (λ (s : Holding _). first_of s.items) c.self.view_is

pub returns-clause-rest : goal.returns-clause-rest
returns-clause-rest g c =
    let o = exact_order g.T.Ord.cmp g.met.T.Ord.total g.met.T.Exact.equal_is_same in
    let xs = c.self.inside.heap.items in
    let took = c.take_out-item.ensures in
    sym (ap rest_of (content_first (not_above_by g.T.Ord.cmp) o xs c.take_out-item.new.heap.items c.take_out-item.result.0 took.permutation took.value
    (heap_in_order g.T.Exact.rank_of g.T.Ord.cmp xs c.self.invariant.ranked c.self.invariant.heap))) ∙ ap (λ (s : Holding _). rest_of s.items) c.self.view_is

pub returns-clause-counted : goal.returns-clause-counted
returns-clause-counted g c =
    let size = sym (length-content (not_above_by g.T.Ord.cmp) c.self.inside.heap.items) ∙ ap (λ (s : Holding _). length s.items) c.self.view_is in
    let took = c.take_out-item.ensures.counted in
    omega (arith, ap (λ n. depth_at (n - 1)) size)

pub returns-clause-few : goal.returns-clause-few
returns-clause-few g c =
    let few = c.self.invariant.few in
    let took = c.take_out-item.ensures.counted in
    omega (arith, shallow (length c.self.inside.heap.items - 1) (omega arith))
