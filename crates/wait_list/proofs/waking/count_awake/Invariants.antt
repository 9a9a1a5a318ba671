use Rattle.std.proofs.Common.{◌≡◌, ◌≤◌, take}
use Rattle.wait_list.specs.Waiters.{count_awake}
use Rattle.wait_list.proofs.waking.count_awake.Given as goal

abbrev pub invariant-loop-waiter : goal.invariant-loop-waiter
invariant-loop-waiter l = record {
  so_far : l.count ≡ count_awake l.group (take l.waiter-index l.waiters);
  fits : l.count ≤ l.waiter-index;
}
