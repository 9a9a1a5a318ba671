use Rattle.split_grid.proofs.Resting.{begins_anew}
use Rattle.split_grid.proofs.grid.Grid.scan_begin.Goals as goal

pub invariant_of-stopped : goal.invariant_of-stopped
invariant_of-stopped g c = rw c.fresh-stopped-inside.ensures (begins_anew _ c.law_places.ensures _ _ c.stopped.invariant)
