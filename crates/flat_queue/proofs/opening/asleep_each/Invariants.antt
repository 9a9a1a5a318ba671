use Rattle.std.proofs.Common.{◌≡◌, map}
use Rattle.flat_queue.specs.Gathered.{licences_at}
use Rattle.flat_queue.specs.Opening.{waiting_of}
use Rattle.flat_queue.proofs.opening.asleep_each.Given as goal

abbrev pub invariant-loop-pen : goal.invariant-loop-pen
invariant-loop-pen g l = (l.waiting.items ≡ map waiting_of l.yielded) × (l.licences.items ≡ map (λ _. licences_at l.desk.table 1) l.yielded)
