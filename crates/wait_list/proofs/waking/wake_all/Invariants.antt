use Rattle.std.proofs.Common.{◌≡◌, take, drop, ◌++◌}
use Rattle.wait_list.specs.Settled.{all_awake}
use Rattle.wait_list.proofs.waking.wake_all.Given as goal

abbrev pub invariant-loop-waiter : goal.invariant-loop-waiter
invariant-loop-waiter l = l.waiters ≡ all_awake l.group (take l.waiter-index l.fn.waiters) ++ drop l.waiter-index l.fn.waiters
