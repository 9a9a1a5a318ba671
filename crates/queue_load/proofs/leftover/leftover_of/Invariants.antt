use Rattle.std.proofs.Common.{take}
use Rattle.queue_load.proofs.Leftovers.{IsLeftover}
use Rattle.queue_load.proofs.leftover.leftover_of.Given as goal

abbrev pub invariant-loop-line : goal.invariant-loop-line
invariant-loop-line g l = IsLeftover g.P.Part.wide l.line-index l.leftover (take l.line-index l.lines)
