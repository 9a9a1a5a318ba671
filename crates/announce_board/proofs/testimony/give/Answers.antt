use Rattle.announce_board.proofs.testimony.give.Goals as goal

pub split_seat-given-requires : goal.split_seat-given-requires
split_seat-given-requires g c = (c.requires.here, c.requires.lock, c.law_testimonies_are_allowed.ensures.testify _ _ _ 0 _ c.args.seat.now.me c.requires.is)
