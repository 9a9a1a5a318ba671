use Rattle.std.proofs.Common.{rules, bit_or, sym, subst}
use Rattle.pq_types.specs.Operation.{ByTicket}
use Rattle.desk_core.specs.Pen.{newly_woken}
use Rattle.announce_board.specs.Rule.{Seated}
use Rattle.announce_board.specs.Steps.{pen_at, book_by}
use Rattle.announce_board.specs.Waking.{IsMaskOf}
use Rattle.announce_board.proofs.Waking.{both_masks}
use Rattle.announce_board.proofs.desk.Desk.release_by_ticket.Goals as goal

pub invariant_of-pen : goal.invariant_of-pen
invariant_of-pen g c =
    let p = pen_at c.pen.inside.seat.me in
    record {
      at = search rules;
      slots = search rules;
      counted = search rules;
      waits_not = search rules;
      owes = subst (λ (m : Seated). IsMaskOf (bit_or c.pen.inside.wakes c.put_home_by_ticket-answer.result.1) (pen_at m).owed) (sym c.put_home_by_ticket-answer.ensures.after.1)
          (both_masks c.pen.inside.wakes c.put_home_by_ticket-answer.result.1 p.owed (newly_woken (book_by p (ByTicket c.args.ticketed) c.put_home_by_ticket-answer.result.0)) c.pen.invariant.owes c.put_home_by_ticket-answer.ensures.wakes);
    }
