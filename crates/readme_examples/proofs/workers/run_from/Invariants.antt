use Rattle.std.proofs.Common.{◌≡◌, ◌-◌}
use Rattle.flat_queue.specs.Limits.{most_posts}
use Rattle.readme_examples.specs.Workers.{taken_out}
use Rattle.readme_examples.proofs.workers.run_from.Given as goal

-- the worker is at its queue, and has run what its calls took out
abbrev pub invariant-loop-tasks : goal.invariant-loop-tasks
invariant-loop-tasks g l = record {
  queue : l.handle.queue ≡ l.fn.handle.queue;
  tasks : l.tasks.items ≡ taken_out l.handle.pen.mine;
}

-- the posts that it still has
abbrev pub decreases-loop-tasks : goal.decreases-loop-tasks
decreases-loop-tasks g l = most_posts l.handle.queue.room - l.handle.pen.posts
