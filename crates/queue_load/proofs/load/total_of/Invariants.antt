use Rattle.std.proofs.Common.{take}
use Rattle.queue_load.proofs.Totals.{IsTotalOf}
use Rattle.queue_load.proofs.load.total_of.Given as goal

abbrev pub invariant-loop-one : goal.invariant-loop-one
invariant-loop-one g l = IsTotalOf g.P.Part.wide l.one-index l.fn.plan (take l.one-index l.worked) l.total
