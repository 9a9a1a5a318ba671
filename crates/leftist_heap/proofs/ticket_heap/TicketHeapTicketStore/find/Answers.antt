use Rattle.std.proofs.Common.{◌∙◌, sym, subst, ap, length}
use Rattle.leftist_heap.specs.Tickets.{item_with}
use Rattle.leftist_heap.specs.Order.{not_above_by}
use Rattle.leftist_heap.specs.Holding.{Holding}
use Rattle.leftist_heap.specs.Places.{HasNone, IsFirstWith}
use Rattle.leftist_heap.proofs.Orders.{exact_order}
use Rattle.leftist_heap.proofs.Removals.{content_none, item_there}
use Rattle.leftist_heap.proofs.ticket_heap.TicketHeapTicketStore.find.Goals as goal

pub returns-in_default : goal.returns-in_default
returns-in_default g c =
    let ticket_of = g.T.HasTicket.ticket_of in
    let none = subst (λ l. HasNone ticket_of l (length l) c.args.ticket) c.deref.ensures.value c.in_default.ensures in
    ap (λ (s : Holding _). item_with ticket_of c.args.ticket s.items) (sym c.self.view_is)
    ∙ content_none (not_above_by g.T.Ord.cmp) c.self.inside.heap.items ticket_of c.args.ticket none

pub returns : goal.returns
returns g c =
    let before = not_above_by g.T.Ord.cmp in
    let o = exact_order g.T.Ord.cmp g.met.T.Ord.total g.met.T.Exact.equal_is_same in
    let ticket_of = g.T.HasTicket.ticket_of in
    let found = subst (λ l. IsFirstWith ticket_of before l (length l) c.args.ticket c.in-Some.place) c.deref.ensures.value c.in-Some.ensures in
    ap (λ (s : Holding _). item_with ticket_of c.args.ticket s.items) (sym c.self.view_is)
    ∙ item_there before o c.self.inside.heap.items c.index.result.now ticket_of c.args.ticket c.in-Some.place c.index.ensures found
