use Rattle.announce_board.proofs.testimony.give_last.Goals as goal

pub split_seat-given-requires : goal.split_seat-given-requires
split_seat-given-requires g c =
    (c.requires.here, c.requires.lock, c.law_testimonies_are_allowed.ensures.retire _ _ _ 0 _ c.args.seat.me c.requires.is c.requires.led_not)
