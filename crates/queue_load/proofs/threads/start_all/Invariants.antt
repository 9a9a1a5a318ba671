use Rattle.std.proofs.Common.{◌≡◌, drop, length}
use Rattle.std.specs.Prelude.{vec_items}
use Rattle.std.specs.Vec.Iter.{into_iter_items}
use Rattle.queue_load.specs.Jobs.{HaveTasks}
use Rattle.queue_load.proofs.threads.start_all.Given as goal

abbrev pub invariant-loop-state : goal.invariant-loop-state
invariant-loop-state g l =
    let done = length (vec_items l.started) in
    HaveTasks l.job (vec_items l.fn.states) (vec_items l.started)
    × (l.worker ≡ done) × (into_iter_items l.state-iterator ≡ drop done (vec_items l.fn.states))
