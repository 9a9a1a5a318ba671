use Rattle.announce_board.proofs.notes.catch_up.Goals as goal

pub load-requires : goal.load-requires
load-requires g c = (c.requires.here, c.requires.lock, c.law_notes_are_allowed.ensures.catch_up _ _ _ _ _ _ c.requires.is)
