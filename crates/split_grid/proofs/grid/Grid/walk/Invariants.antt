use Rattle.std.proofs.Common.{◌≡◌, ◌-◌}
use Rattle.split_grid.specs.Ways.{GoesOn}
use Rattle.split_grid.proofs.grid.Grid.walk.Given as goal

abbrev pub invariant-loop-next : goal.invariant-loop-next
invariant-loop-next g l = record {
  table : l.walker.table ≡ l.fn.newcomer.table;
  tag : l.walker.tag ≡ l.fn.newcomer.tag;
  comers : l.walker.comers ≡ l.fn.newcomer.comers;
  id : l.walker.comer.id ≡ l.fn.newcomer.comer.id;
  way : GoesOn l.fn.newcomer.comer l.walker.comer;
}

abbrev pub decreases-loop-next : goal.decreases-loop-next
decreases-loop-next g l = 256 - l.walker.comer.steps
