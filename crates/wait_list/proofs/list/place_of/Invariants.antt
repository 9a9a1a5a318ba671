use Rattle.std.proofs.Common.{◌≡◌, take, false}
use Rattle.wait_list.specs.Waiters.{has_number}
use Rattle.wait_list.proofs.list.place_of.Given as goal

abbrev pub invariant-loop-i : goal.invariant-loop-i
invariant-loop-i l = has_number l.number (take l.i l.waiters) ≡ false
