use Rattle.std.proofs.Common.{◌<◌, length, ◌∙◌, ap, sym, subst, Some, rules}
use Rattle.std.proofs.lemmas.Option.{slice_get-get_or, get_or_from_slice_get, slice_get_within}
use Rattle.queue_load.proofs.Threading.{done_as}
use Rattle.queue_load.proofs.threads.start_and_join.Goals as goal

pub returns-in-Ok : goal.returns-in-Ok
returns-in-Ok g c i w at =
    let within = slice_get_within c.in-Ok.worked.items i w at in
    let started = c.in_ok-started.started.items in
    let below : i < length started = search rules in
    let each = (c.in-Ok.ensures.each i w (search rules)).1 in
    let promise = each.handle.promise in
    let task = c.in_ok-started.ensures i each.handle (slice_get-get_or started i each.handle below ∙ ap Some (sym each.handle_is)) in (
      promise.state.value,
      task.state_is,
      done_as g.J.Job.has_done c.args.job.now i c.args.states.items promise w task
          (subst (λ x. g.J.Job.has_done promise.job.now promise.worker promise.state.value x) (get_or_from_slice_get c.in-Ok.worked.items i w w at) each.kept),
    )
