use Rattle.std.proofs.Common.{sym, ◌∙◌, arith}
use Rattle.split_grid.proofs.Scans.{door_bounds, same_comers, cursor_stored}
use Rattle.split_grid.proofs.steps.read_next_door.Goals as goal

pub after_door-requires-clause-on_grid : goal.after_door-requires-clause-on_grid
after_door-requires-clause-on_grid g c = let b = door_bounds _ _ _ c.law_places.ensures c.requires.rests c.requires.more in omega (arith, b)

pub after_door-requires-clause-count : goal.after_door-requires-clause-count
after_door-requires-clause-count g c = let b = door_bounds _ _ _ c.law_places.ensures c.requires.rests c.requires.more in omega (arith, b)

pub returns-clause-stored : goal.returns-clause-stored
returns-clause-stored g c =
    let counted = same_comers _ _ _ c.law_places.ensures c.requires.sized.slots c.requires.rests.sized in
    cursor_stored _ _ _ _ _ _ _ c.requires.rests (c.requires.comers ∙ sym counted) c.load_door-closed.ensures.door c.after_door.ensures
