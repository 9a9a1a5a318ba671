use Rattle.std.proofs.Common.{◌≡◌, ◌≢◌, ℕ, ◌<◌, slice_get, Some}
use Rattle.split_core.specs.declared.walker.Walker.{Walker}
use Rattle.split_core.proofs.machine.Machine.find.Given as goal

abbrev pub invariant-loop-k : goal.invariant-loop-k
invariant-loop-k g l = (j : ℕ) (r : Walker) → j < l.k → slice_get l.self.walkers.items j ≡ Some r → r.id ≢ l.id
