use Rattle.announce_board.proofs.NoteSteps.{heard_whole}
use Rattle.announce_board.proofs.notes.hear_whole.Goals as goal

pub returns-clause-after : goal.returns-clause-after
returns-clause-after g c = (heard_whole c.args.seat.now.me c.hear_note.new.seat.me c.catch_up.new.seat.me c.args.note.told c.hear_note.ensures.after c.catch_up.ensures.caught_up).0

pub returns-clause-knows : goal.returns-clause-knows
returns-clause-knows g c = (heard_whole c.args.seat.now.me c.hear_note.new.seat.me c.catch_up.new.seat.me c.args.note.told c.hear_note.ensures.after c.catch_up.ensures.caught_up).1

pub returns-clause-tells : goal.returns-clause-tells
returns-clause-tells g c = (heard_whole c.args.seat.now.me c.hear_note.new.seat.me c.catch_up.new.seat.me c.args.note.told c.hear_note.ensures.after c.catch_up.ensures.caught_up).2
