use Rattle.std.proofs.Common.{ap, sym, subst, ◌∙◌, slice_set, arith}
use lib.Seq.{get_or-set_same}
use Rattle.std_alloc.specs.Vec.Detached.{seen}
use Rattle.std_alloc.proofs.vec.Slotted.{as_it_was}
use Rattle.leftist_heap.specs.Places.{IsPlaced, IsPlacedBut}
use Rattle.leftist_heap.proofs.Placings.{hole_filled}
use Rattle.leftist_heap.proofs.placing.risen.Goals as goal

pub returns-clause-placed : goal.returns-clause-placed
returns-clause-placed g c h =
    let took = c.take-item.ensures in
    let x = c.take-item.result in
    let at = c.args.from.0 in
    let before = ap (λ l. slice_set l at x) took.items ∙ as_it_was _ at x took.value in
    let row = c.rise_from-hole.new.row in
    let hole = c.rise_from-hole.result in
    let start = subst (λ l. IsPlacedBut g.T.HasTicket.ticket_of (g.P.Places.table c.args.places) l at) (sym before) h in
    let raised = c.rise_from-hole.ensures.placed start in
    let counted = row.ok.0 in
    let within = c.rise_from-hole.ensures.hole.0.within in
    subst (λ l. IsPlaced g.T.HasTicket.ticket_of (g.P.Places.table c.mark.new.self) l) (sym c.put.ensures.items)
    (hole_filled g.T.HasTicket.ticket_of (seen row hole x) hole _ _ c.ticket.result c.mark.ensures
    (λ d. c.ticket.ensures ∙ ap g.T.HasTicket.ticket_of (sym (get_or-set_same row.items hole x d (omega arith)))) raised)
