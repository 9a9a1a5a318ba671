use Rattle.std.proofs.Common.{arith}
use Rattle.split_grid.proofs.DoorLooks.{sees}
use Rattle.split_grid.proofs.trails.see_door.Goals as goal

pub load-requires : goal.load-requires
load-requires g c =
    let key = c.args.board.now.key in (
      c.requires.here,
      omega (arith, c.requires.within, c.door_word.ensures, c.requires.sized.words, c.requires.sized.slots),
      rw c.door_word.ensures (sees g.T.Fits.fits key.tag key.ids.items c.law_all_runs.ensures.ways_closed _ _ _ c.args.walker
          c.requires.rests c.args.door (omega (arith, c.requires.within, c.requires.sized.slots))),
    )
