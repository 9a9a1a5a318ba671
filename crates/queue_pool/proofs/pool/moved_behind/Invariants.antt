use Rattle.std.proofs.Common.{◌≡◌, ◌+◌, ◌≤◌, ◌++◌}
use Rattle.std.specs.Vec.{vec_len, vec_capacity}
use Rattle.std.specs.VecDeque.{deque_len}
use Rattle.queue_pool.proofs.pool.moved_behind.Given as goal

-- both together have the same items, in the same order, and there is room for all of them
abbrev pub invariant-loop-item : goal.invariant-loop-item
invariant-loop-item g l =
    (l.into.items ++ l.from.items ≡ l.initial.into.items ++ l.initial.from.items) × (vec_len l.into + deque_len l.from ≤ vec_capacity l.into)

abbrev pub decreases-loop-item : goal.decreases-loop-item
decreases-loop-item g l = deque_len l.from
