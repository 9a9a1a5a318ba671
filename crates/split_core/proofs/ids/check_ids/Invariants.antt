use Rattle.std.proofs.Common.{length}
use Rattle.split_core.specs.Places.{IsGridSize}
use Rattle.split_core.specs.Ids.{AreFine}
use Rattle.split_core.proofs.ids.check_ids.Given as goal

abbrev pub invariant-loop-k : goal.invariant-loop-k
invariant-loop-k l = record { size : IsGridSize (length l.ids); fine : AreFine l.ids l.k }
