use Rattle.std.proofs.Common.{◌∙◌, ap, sym, subst}
use Rattle.core.proofs.slice.Lists.{any-default}
use Rattle.leftist_heap.specs.Order.{not_above_by}
use Rattle.leftist_heap.proofs.Orders.{exact_order, as_order}
use Rattle.leftist_heap.proofs.Removals.{found_here}
use Rattle.leftist_heap.proofs.ticket_heap.first_up_to.Goals as goal

pub returns-then-is_lower_than_found-clause-found : goal.returns-then-is_lower_than_found-clause-found
returns-then-is_lower_than_found-clause-found g c =
    let ticket_of = g.T.HasTicket.ticket_of in
    let o = exact_order g.T.Ord.cmp g.met.T.Ord.total g.met.T.Exact.equal_is_same in
    let item = c.index-items-at in
    found_here ticket_of (not_above_by g.T.Ord.cmp) (as_order o) c.args.items.now c.args.at c.args.ticket c.args.found c.requires.found
    c.if-is_lower_than_found.ensures.lower
    (λ d. ap ticket_of (any-default c.args.items.now c.args.at d item.result c.requires.within ∙ sym item.is) ∙ sym c.ticket.ensures ∙ c.if-ticket.true)
