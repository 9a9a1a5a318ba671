use Rattle.std.proofs.Common.{sym, ◌∙◌, ap, subst, length, []}
use Rattle.leftist_heap.specs.Order.{IsAscendingBy, not_above_by}
use Rattle.leftist_heap.specs.Holding.{Holding}
use Rattle.leftist_heap.proofs.Orders.{exact_order}
use Rattle.leftist_heap.proofs.Contents.{with_items-ascending}
use Rattle.leftist_heap.proofs.Arrays.{length-content}
use Rattle.leftist_heap.proofs.ticket_heap.TicketHeapStore.len.Goals as goal

pub returns-clause-len : goal.returns-clause-len
returns-clause-len g c =
    c.len.ensures ∙ c.self.inside.heap.ok.0 ∙ sym (length-content (not_above_by g.T.Ord.cmp) c.self.inside.heap.items)
    ∙ ap (λ (s : Holding _). length s.items) c.self.view_is

pub returns-clause-ascending : goal.returns-clause-ascending
returns-clause-ascending g c =
    subst (λ (s : Holding _). IsAscendingBy (not_above_by g.T.Ord.cmp) s.items) c.self.view_is
    (with_items-ascending (not_above_by g.T.Ord.cmp) (exact_order g.T.Ord.cmp g.met.T.Ord.total g.met.T.Exact.equal_is_same)
    c.self.inside.heap.items [] tt)
