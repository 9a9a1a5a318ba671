use Rattle.std.proofs.Common.{◌≡◌, ◌++◌, map, take, drop}
use Rattle.queue_c.specs.Plain.{told_item}
use Rattle.queue_c.proofs.buffers.hand_out.Given as goal

abbrev pub invariant-loop-i : goal.invariant-loop-i
invariant-loop-i l = l.items ≡ map told_item (take l.i l.slots) ++ drop l.i l.fn.items
