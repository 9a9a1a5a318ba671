use Rattle.std.proofs.Common.{◌≡◌, take, false}
use Rattle.wait_list.specs.Waiters.{has}
use Rattle.wait_list.proofs.waking.any.Given as goal

abbrev pub invariant-loop-waiter : goal.invariant-loop-waiter
invariant-loop-waiter l = has l.group (take l.waiter-index l.waiters) ≡ false
