use Rattle.std.proofs.Common.{◌≡◌, take, drop, ◌++◌}
use Rattle.wait_list.specs.Settled.{woken_first}
use Rattle.wait_list.proofs.waking.wake_first.Given as goal

-- those before the place, and what becomes of the others, are what is to become of all
abbrev pub invariant-loop-one : goal.invariant-loop-one
invariant-loop-one l =
    take l.one-index l.waiters ++ woken_first l.left l.group (drop l.one-index l.waiters) ≡ woken_first l.count l.group l.fn.waiters
