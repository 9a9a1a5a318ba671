use Rattle.std.proofs.Common.{◌∙◌, ap, sym, ◌++◌, ◌∷◌, []}
use Rattle.flat_queue.specs.Calling.{popped}
use Rattle.readme_examples.specs.Workers.{handed_over, taken_out}
use Rattle.readme_examples.proofs.TakenOut.{after_call, after_push}
use Rattle.readme_examples.proofs.workers.run_from.Goals as goal

-- the push of the next run takes nothing out, and the pop before it the task
pub loop-tasks-preserved-in_ok-push-3 : goal.loop-tasks-preserved-in_ok-push-3
loop-tasks-preserved-in_ok-push-3 g c =
    let pop = c.in_ok-task.ensures.ok in
    let push = c.in_ok-push-3.ensures.ok in
    let taken = after_call pop ∙ ap (λ found. taken_out c.loop-tasks.handle.pen.mine ++ handed_over (popped found)) c.in_default-Some.is-1 in
    record {
      queue = push.member.stays.queue ∙ pop.member.stays.queue ∙ c.loop-tasks.invariant.queue;
      tasks =
          c.in_ok-push-2.ensures.items ∙ ap (λ ts. ts ++ c.in_default-Some.task ∷ []) c.loop-tasks.invariant.tasks ∙ sym taken
          ∙ sym (after_push push);
    }
