use Rattle.std.proofs.Common.{arith}
use Rattle.split_grid.proofs.Scans.{ScanLaws, reads_first, reads_next, door_bounds, same_comers}
use Rattle.split_grid.proofs.steps.load_door.Goals as goal

pub place_behind-requires : goal.place_behind-requires
place_behind-requires g c = let b = door_bounds _ _ _ c.law_places.ensures c.requires.rests c.requires.more in omega (arith, b)

pub load-requires : goal.load-requires
load-requires g c =
    let key = c.args.board.now.key in
    let laws : ScanLaws = record { inside = c.law_all_runs.ensures.inside; ended = c.law_all_runs.ensures.ended; follow = c.law_cursors.ensures } in
    let b = door_bounds _ _ _ c.law_places.ensures c.requires.rests c.requires.more in
    let counted = same_comers _ _ _ c.law_places.ensures c.requires.sized.slots c.requires.rests.sized in (
      c.requires.here,
      omega (arith, b, c.door_word-word.ensures, c.place_behind.ensures, c.requires.rests.counted, c.requires.sized.words, c.requires.sized.slots),
      rw (c.door_word-word.ensures, c.place_behind.ensures, c.requires.rests.counted)
          (reads_first g.T.Fits.fits key.tag key.ids.items laws _ _ _ c.args.walker c.requires.rests counted c.requires.more c.if-walker-eq0.true),
    )

pub load-requires-else-walker-eq0 : goal.load-requires-else-walker-eq0
load-requires-else-walker-eq0 g c =
    let key = c.args.board.now.key in
    let laws : ScanLaws = record { inside = c.law_all_runs.ensures.inside; ended = c.law_all_runs.ensures.ended; follow = c.law_cursors.ensures } in
    let b = door_bounds _ _ _ c.law_places.ensures c.requires.rests c.requires.more in
    let counted = same_comers _ _ _ c.law_places.ensures c.requires.sized.slots c.requires.rests.sized in (
      c.requires.here,
      omega (arith, b, c.door_word-word.ensures, c.place_behind.ensures, c.requires.rests.counted, c.requires.sized.words, c.requires.sized.slots),
      rw (c.door_word-word.ensures, c.place_behind.ensures, c.requires.rests.counted)
          (reads_next g.T.Fits.fits key.tag key.ids.items laws _ _ _ c.args.walker c.requires.rests counted c.requires.more c.if-walker-eq0.false),
    )
