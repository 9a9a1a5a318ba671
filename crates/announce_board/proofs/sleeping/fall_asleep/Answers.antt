use Rattle.announce_board.proofs.sleeping.fall_asleep.Goals as goal

pub split_seat-given-requires : goal.split_seat-given-requires
split_seat-given-requires g c =
    (c.requires.here, c.requires.lock, c.law_sleep_is_allowed.ensures.sleep _ _ _ 0 _ c.args.seat.me c.requires.at.is c.requires.new)
