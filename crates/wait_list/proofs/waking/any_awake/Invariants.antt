use Rattle.std.proofs.Common.{◌≡◌, take, false}
use Rattle.std.specs.List.{list_any}
use Rattle.wait_list.specs.Waiters.{is_awake}
use Rattle.wait_list.proofs.waking.any_awake.Given as goal

abbrev pub invariant-loop-waiter : goal.invariant-loop-waiter
invariant-loop-waiter l = list_any (is_awake l.group) (take l.waiter-index l.waiters) ≡ false
