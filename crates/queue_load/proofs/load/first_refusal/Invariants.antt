use Rattle.std.proofs.Common.{ℕ, ◌<◌}
use Rattle.queue_load.specs.Load.{HasRefused}
use Rattle.queue_load.proofs.load.first_refusal.Given as goal

abbrev pub invariant-loop-index : goal.invariant-loop-index
invariant-loop-index g l = (i : ℕ) → i < l.index → ¬ (HasRefused l.worked i)
