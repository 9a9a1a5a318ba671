use Rattle.std.proofs.Common.{[], length}
use Rattle.flat_queue.specs.Gathered.{Gathers}
use Rattle.flat_queue.proofs.gathered.all_licences.Given as goal

abbrev pub invariant-loop-licence : goal.invariant-loop-licence
invariant-loop-licence g l = Gathers l.desk.table [] (length l.yielded) l.all
