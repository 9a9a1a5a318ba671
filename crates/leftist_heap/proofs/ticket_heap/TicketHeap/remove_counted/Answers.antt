use Rattle.std.proofs.Common.{sym, subst, ◌∙◌, ap, length, ◌-◌, arith}
use Rattle.leftist_heap.specs.Tickets.{item_with, without_ticket}
use Rattle.leftist_heap.specs.Order.{not_above_by}
use Rattle.leftist_heap.specs.Holding.{Holding}
use Rattle.leftist_heap.specs.Places.{HasNone, IsFirstWith}
use Rattle.leftist_heap.proofs.Orders.{exact_order}
use Rattle.leftist_heap.specs.Depth.{depth_at}
use Rattle.leftist_heap.proofs.Arrays.{length-content}
use Rattle.leftist_heap.proofs.Removals.{content_item, content_rest, content_none, content_same, still_ticket_heap}
use Rattle.leftist_heap.proofs.ticket_heap.TicketHeap.remove_counted.Goals as goal

pub invariant_of-self : goal.invariant_of-self
invariant_of-self g c =
    let took = c.take_out-item.ensures in
    still_ticket_heap g.T.Ord.cmp g.T.Exact.rank_of g.T.HasTicket.ticket_of c.self.inside.heap.items c.take_out-item.new.heap.items c.take_out-item.result.0
    took.permutation _ _ _ c.self.invariant took.heap took.placed

pub returns-in_default-clause-item : goal.returns-in_default-clause-item
returns-in_default-clause-item g c =
    let ticket_of = g.T.HasTicket.ticket_of in
    let xs = c.self.inside.heap.items in
    let none = subst (λ l. HasNone ticket_of l (length l) c.args.ticket) c.deref.ensures.value c.in_default.ensures.found in
    sym (content_none (not_above_by g.T.Ord.cmp) xs ticket_of c.args.ticket none)
    ∙ ap (λ (s : Holding _). item_with ticket_of c.args.ticket s.items) c.self.view_is

pub returns-in_default-clause-rest : goal.returns-in_default-clause-rest
returns-in_default-clause-rest g c =
    let ticket_of = g.T.HasTicket.ticket_of in
    let xs = c.self.inside.heap.items in
    let none = subst (λ l. HasNone ticket_of l (length l) c.args.ticket) c.deref.ensures.value c.in_default.ensures.found in
    ap (λ (s : Holding _). s.items) (sym c.self.view_is)
    ∙ sym (content_same (not_above_by g.T.Ord.cmp) xs ticket_of c.args.ticket none)
    ∙ ap (λ (s : Holding _). without_ticket ticket_of c.args.ticket s.items) c.self.view_is

pub returns-clause-item : goal.returns-clause-item
returns-clause-item g c =
    let before = not_above_by g.T.Ord.cmp in
    let o = exact_order g.T.Ord.cmp g.met.T.Ord.total g.met.T.Exact.equal_is_same in
    let ticket_of = g.T.HasTicket.ticket_of in
    let xs = c.self.inside.heap.items in
    let took = c.take_out-item.ensures in
    let found = subst (λ l. IsFirstWith ticket_of before l (length l) c.args.ticket c.in-Some.place) c.deref.ensures.value c.in-Some.ensures.found in
    sym (content_item before o xs c.take_out-item.new.heap.items c.take_out-item.result.0 took.permutation ticket_of c.args.ticket c.in-Some.place took.value found)
    ∙ ap (λ (s : Holding _). item_with ticket_of c.args.ticket s.items) c.self.view_is

pub returns-clause-rest : goal.returns-clause-rest
returns-clause-rest g c =
    let before = not_above_by g.T.Ord.cmp in
    let o = exact_order g.T.Ord.cmp g.met.T.Ord.total g.met.T.Exact.equal_is_same in
    let ticket_of = g.T.HasTicket.ticket_of in
    let xs = c.self.inside.heap.items in
    let took = c.take_out-item.ensures in
    let found = subst (λ l. IsFirstWith ticket_of before l (length l) c.args.ticket c.in-Some.place) c.deref.ensures.value c.in-Some.ensures.found in
    sym (content_rest before o xs c.take_out-item.new.heap.items c.take_out-item.result.0 took.permutation ticket_of c.args.ticket c.in-Some.place took.value found)
    ∙ ap (λ (s : Holding _). without_ticket ticket_of c.args.ticket s.items) c.self.view_is

pub returns-clause-counted : goal.returns-clause-counted
returns-clause-counted g c =
    let size = sym (length-content (not_above_by g.T.Ord.cmp) c.self.inside.heap.items) ∙ ap (λ (s : Holding _). length s.items) c.self.view_is in
    let took = c.take_out-item.ensures.counted in
    let looked = c.find-found.ensures.counted in
    let all = ap length c.deref.ensures.value in
    omega (arith, ap (λ n. depth_at (n - 1)) size)

pub returns-in_default-clause-counted : goal.returns-in_default-clause-counted
returns-in_default-clause-counted g c =
    let size = sym (length-content (not_above_by g.T.Ord.cmp) c.self.inside.heap.items) ∙ ap (λ (s : Holding _). length s.items) c.self.view_is in
    let looked = c.find-found.ensures.counted in
    let all = ap length c.deref.ensures.value in
    omega arith
