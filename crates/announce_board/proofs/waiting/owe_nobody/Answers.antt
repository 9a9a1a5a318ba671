use Rattle.announce_board.proofs.waiting.owe_nobody.Goals as goal

pub load-requires : goal.load-requires
load-requires g c = (c.requires.here, c.requires.lock, c.law_steps_are_allowed.ensures.hand_out _ _ _ _ _ c.args.seat.now.me c.requires.is)
