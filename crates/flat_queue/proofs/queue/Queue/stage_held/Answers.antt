use Rattle.std.proofs.Common.{ap}
use Rattle.flat_queue.specs.declared.resting.Rest.{Rest}
use Rattle.flat_queue.proofs.CallStepping.{held_posts}
use Rattle.flat_queue.proofs.queue.Queue.stage_held.Goals as goal

pub returns-in-HasPosted-clause-comes : goal.returns-in-HasPosted-clause-comes
returns-in-HasPosted-clause-comes g c =
    let h = c.in-HasPosted.ensures in
    held_posts _ c.args.member.now c.step_held.new.member c.args.request c.rest-tries.result.tries (ap (λ (r : Rest). r.tries) c.rest-tries.ensures) h.0 h.1
