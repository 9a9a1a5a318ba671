use Rattle.std.proofs.Common.{rules, bit_or, sym, subst}
use Rattle.desk_core.specs.Pen.{newly_woken, book_in_hand}
use Rattle.announce_board.specs.Rule.{Seated}
use Rattle.announce_board.specs.Steps.{pen_at}
use Rattle.announce_board.specs.Waking.{IsMaskOf}
use Rattle.announce_board.proofs.Waking.{both_masks}
use Rattle.announce_board.proofs.desk.Desk.release.Goals as goal

pub invariant_of-pen : goal.invariant_of-pen
invariant_of-pen g c =
    let p = pen_at c.pen.inside.seat.me in
    record {
      at = search rules;
      slots = search rules;
      counted = search rules;
      waits_not = search rules;
      owes = subst (λ (m : Seated). IsMaskOf (bit_or c.pen.inside.wakes c.put_home-wakes.result) (pen_at m).owed) (sym c.put_home-wakes.ensures.after)
          (both_masks c.pen.inside.wakes c.put_home-wakes.result p.owed (newly_woken (book_in_hand p)) c.pen.invariant.owes c.put_home-wakes.ensures.wakes);
    }
