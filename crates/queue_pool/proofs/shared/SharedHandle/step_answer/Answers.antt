use Rattle.std.proofs.Common.{rules}
use Rattle.queue_pool.proofs.shared.SharedHandle.step_answer.Goals as goal
use Rattle.queue_pool.proofs.shared.SharedHandle.step_answer.Goals.{in-Ends-Answered, in-Goes-Looks, in-Goes-Waits}

pub returns : goal.returns
returns g c =
    elim c.match-step_asking.branch [
      | in-Ends-Answered w ↦ rw w.result-is (search rules)
      | in-Goes-Looks w ↦ rw w.result-is (search rules)
      | in-Goes-Waits w ↦ rw w.result-is (search rules)
    ]
