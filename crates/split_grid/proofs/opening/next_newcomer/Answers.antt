use Rattle.std.proofs.Common.{◌+◌, ◌<◌, arith}
use Rattle.split_grid.proofs.Deals.{cuts}
use Rattle.split_grid.proofs.opening.next_newcomer.Goals as goal

pub split_seat-requires : goal.split_seat-requires
split_seat-requires g c =
    let key = c.args.board.now.key in
    let some : 0 + 0 < c.args.dealer.now.me.0.comers = omega (arith, c.requires.sized.size.some) in
    let room = (c.law_places.ensures 0 0).within c.args.dealer.now.me.0.comers some in
    (c.requires.here, omega (arith, room, c.requires.sized.words), cuts g.T.Fits.fits key.tag key.ids.items _ _ _ c.requires.next)
