use Rattle.std.proofs.Common.{sym, ◌∙◌, ◌∷◌, ap}
use Rattle.atomic_table.specs.Table.{rest}
use Rattle.desk_core.specs.Pen.{book_in_hand}
use Rattle.announce_board.specs.Batches.{is_first_due}
use Rattle.announce_board.specs.Slots.{with_book}
use Rattle.announce_board.specs.Steps.{pen_at}
use Rattle.announce_board.proofs.Lent.{value_held}
use Rattle.announce_board.proofs.applying.is_due_in_slot.Goals as goal

pub slot_mut-slot-requires : goal.slot_mut-slot-requires
slot_mut-slot-requires g c =
    let there = with_book (book_in_hand (pen_at c.args.seat.now.me)) in
    (c.requires.here, (there, c.requires.slot ∙ ap (λ l. (0, there) ∷ rest l) (sym c.requires.slot)))

pub returns-clause-due : goal.returns-clause-due
returns-clause-due g c =
    let book = book_in_hand (pen_at c.args.seat.now.me) in
    c.is_due.ensures
    ∙ ap (is_first_due (g.P.Part.number c.args.priority)) (c.first.ensures book (value_held c.args.seat.now.me.1 c.slot_mut-slot.result.now (with_book book) c.requires.slot c.slot_mut-slot.ensures.value))
