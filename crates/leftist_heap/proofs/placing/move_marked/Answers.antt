use Rattle.std.proofs.Common.{◌≡◌, length, ◌∙◌, sym, ap, arith}
use lib.ListN.{length-set}
use lib.Seq.{get_or-set_other}
use Rattle.core.proofs.slice.Lists.{any-default}
use Rattle.std_alloc.specs.Vec.Detached.{seen}
use Rattle.leftist_heap.proofs.Holes.{swapped, as_long}
use Rattle.leftist_heap.proofs.Placings.{hole_moved}
use Rattle.leftist_heap.proofs.placing.move_marked.Goals as goal

pub returns-clause-placed : goal.returns-clause-placed
returns-clause-placed g c =
    let hole = c.args.hole in
    let other = c.args.other in
    let x = c.args.item.now in
    let items = c.args.row.now.items in
    let xs = seen c.args.row.now hole x in
    let ys = seen c.move_hole.new.row other x in
    let counted : c.args.row.now.len ≡ length items = c.args.row.now.ok.0 in
    let long : length xs ≡ length items = length-set items hole x in
    let within = c.requires.hole.0.within in
    let room = c.requires.hole.1 in
    let apart = c.requires.hole.2 in
    let moved = c.move_hole.ensures.items in
    hole_moved g.T.HasTicket.ticket_of xs ys hole other _ _ c.ticket.result (swapped xs ys hole other (omega arith) (omega arith) moved)
    (as_long xs ys hole other (omega arith) (omega arith) moved) (omega arith) (omega arith) apart c.mark.ensures
    (λ d. c.ticket.ensures ∙ ap g.T.HasTicket.ticket_of (sym (get_or-set_other items hole other x d apart
    ∙ any-default items other d c.get.result.now (omega arith) ∙ sym c.get.ensures)))
