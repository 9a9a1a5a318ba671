use Rattle.std.proofs.Common.{◌≡◌, ◌-◌, length, map, take}
use Rattle.flat_queue.specs.Opening.{is_coming}
use Rattle.flat_queue.proofs.opening.newcomers_of.Given as goal

abbrev pub invariant-loop-walking : goal.invariant-loop-walking
invariant-loop-walking l = (l.newcomers.items ≡ map is_coming l.yielded) × (l.left.items ≡ take (length l.initial.left.items - length l.yielded) l.initial.left.items)
