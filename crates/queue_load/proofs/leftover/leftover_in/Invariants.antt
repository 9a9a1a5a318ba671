use Rattle.std.proofs.Common.{length}
use Rattle.queue_load.proofs.Leftovers.{AddedUp}
use Rattle.queue_load.proofs.leftover.leftover_in.Given as goal

abbrev pub invariant-loop-entry : goal.invariant-loop-entry
invariant-loop-entry g l = AddedUp g.P.Part.wide (g.S.Store.content l.fn.store) l.sum (g.S.Store.content l.store)

abbrev pub decreases-loop-entry : goal.decreases-loop-entry
decreases-loop-entry g l = length (g.S.Store.content l.store)
