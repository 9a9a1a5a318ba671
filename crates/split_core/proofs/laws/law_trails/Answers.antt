use Rattle.std.proofs.Common.{refl}
use Rattle.split_core.specs.Places.{place}
use Rattle.split_core.proofs.TrailRuns.{trails_whole, trail_doors, in_order, trail_rows, start_rows}
use Rattle.split_core.proofs.TrailRows.{rows_start}
use Rattle.split_core.proofs.laws.law_trails.Goals as goal

pub returns-clause-trails : goal.returns-clause-trails
returns-clause-trails c ids d = trails_whole ids d

pub returns-clause-doors : goal.returns-clause-doors
returns-clause-doors c ids acts d = trail_doors ids d acts

pub returns-clause-in_a_full_grid : goal.returns-clause-in_a_full_grid
unfolding place
returns-clause-in_a_full_grid c = refl

pub returns-clause-in_a_larger_grid : goal.returns-clause-in_a_larger_grid
unfolding place
returns-clause-in_a_larger_grid c = refl

pub returns-clause-order : goal.returns-clause-order
returns-clause-order c ids acts a = in_order ids acts a

pub returns-clause-rows : goal.returns-clause-rows
returns-clause-rows c ids acts n a = trail_rows ids acts n a

pub returns-clause-first_rows : goal.returns-clause-first_rows
returns-clause-first_rows c n = (rows_start n, start_rows n)
