use Rattle.announce_board.proofs.notes.write_note.Goals as goal

pub split_seat-note-requires : goal.split_seat-note-requires
split_seat-note-requires g c = (c.requires.here, c.requires.lock, c.law_notes_are_allowed.ensures.writing _ _ _ 0 _ c.args.seat.now.me c.requires.is)
