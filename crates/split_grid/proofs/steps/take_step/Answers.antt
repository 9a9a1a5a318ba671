use Rattle.std.proofs.Common.{arith}
use Rattle.split_core.specs.declared.model.Next.TheVariants.{WriteLast, ReadDoor, CloseDoor, ReadLast}
use Rattle.split_grid.proofs.Strides.{Laws, strides, inside_words}
use Rattle.split_grid.proofs.steps.take_step.Goals as goal

pub store-requires : goal.store-requires
store-requires g c =
    let key = c.args.board.now.key in
    let spot = c.place_number-here.ensures in
    let laws : Laws = record {
      stops = c.law_all_runs.ensures.one_stops;
      inside = c.law_all_runs.ensures.inside;
      ways = c.law_all_runs.ensures.way_steps;
    } in
    let room = inside_words _ _ _ _ _ c.law_places.ensures c.requires.sized c.requires.places c.requires.walks in (
      c.requires.here,
      omega (arith, room, c.last_word.ensures, spot),
      rw c.last_word.ensures (strides g.T.Fits.fits key.tag key.ids.items laws _ _ _ c.args.walker _ _ WriteLast c.requires.walks
          c.in-WriteLast.is c.requires.places spot),
    )

pub load-door-requires : goal.load-door-requires
load-door-requires g c =
    let key = c.args.board.now.key in
    let spot = c.place_number-here.ensures in
    let laws : Laws = record {
      stops = c.law_all_runs.ensures.one_stops;
      inside = c.law_all_runs.ensures.inside;
      ways = c.law_all_runs.ensures.way_steps;
    } in
    let room = inside_words _ _ _ _ _ c.law_places.ensures c.requires.sized c.requires.places c.requires.walks in (
      c.requires.here,
      omega (arith, room, c.door_word.ensures, spot),
      rw c.door_word.ensures (strides g.T.Fits.fits key.tag key.ids.items laws _ _ _ c.args.walker _ _ ReadDoor c.requires.walks
          c.in-ReadDoor.is c.requires.places spot),
    )

pub store-requires-in-CloseDoor : goal.store-requires-in-CloseDoor
store-requires-in-CloseDoor g c =
    let key = c.args.board.now.key in
    let spot = c.place_number-here.ensures in
    let laws : Laws = record {
      stops = c.law_all_runs.ensures.one_stops;
      inside = c.law_all_runs.ensures.inside;
      ways = c.law_all_runs.ensures.way_steps;
    } in
    let room = inside_words _ _ _ _ _ c.law_places.ensures c.requires.sized c.requires.places c.requires.walks in (
      c.requires.here,
      omega (arith, room, c.door_word-in-CloseDoor.ensures, spot),
      rw c.door_word-in-CloseDoor.ensures
          (strides g.T.Fits.fits key.tag key.ids.items laws _ _ _ c.args.walker _ _ CloseDoor c.requires.walks c.in-CloseDoor.is
          c.requires.places spot),
    )

pub load-last-requires : goal.load-last-requires
load-last-requires g c =
    let key = c.args.board.now.key in
    let spot = c.place_number-here.ensures in
    let laws : Laws = record {
      stops = c.law_all_runs.ensures.one_stops;
      inside = c.law_all_runs.ensures.inside;
      ways = c.law_all_runs.ensures.way_steps;
    } in
    let room = inside_words _ _ _ _ _ c.law_places.ensures c.requires.sized c.requires.places c.requires.walks in (
      c.requires.here,
      omega (arith, room, c.last_word-in-ReadLast.ensures, spot),
      rw c.last_word-in-ReadLast.ensures
          (strides g.T.Fits.fits key.tag key.ids.items laws _ _ _ c.args.walker _ _ ReadLast c.requires.walks c.in-ReadLast.is
          c.requires.places spot),
    )
