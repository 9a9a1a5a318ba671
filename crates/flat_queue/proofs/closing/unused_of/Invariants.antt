use Rattle.std.proofs.Common.{[], length}
use Rattle.flat_queue.specs.Gathered.{Gathers}
use Rattle.flat_queue.proofs.closing.unused_of.Given as goal

abbrev pub invariant-loop-newcomer : goal.invariant-loop-newcomer
invariant-loop-newcomer g l = Gathers l.desk.table [] (length l.yielded) l.all
