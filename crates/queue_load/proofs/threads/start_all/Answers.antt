use Rattle.std.proofs.Common.{rules, ◌+◌, length, drop, Some, sym, ◌∙◌, ap, subst, arith}
use Rattle.std.specs.Prelude.{vec_items}
use Rattle.std.specs.Vec.Iter.{into_iter_items}
use Rattle.std.proofs.lemmas.List.{length_push}
use Rattle.queue_load.specs.declared.threads.Task.{Task}
use Rattle.queue_load.proofs.Threading.{tasks_more, drop_first}
use Rattle.queue_load.proofs.threads.start_all.Goals as goal

pub start-requires-clause-may : goal.start-requires-clause-may
start-requires-clause-may g c κs within =
    let done = length (vec_items c.loop-state.started) in
    let at = (drop_first (vec_items c.args.states) (into_iter_items c.next.new.self) done c.in-Some.state (sym c.loop-state.invariant.2 ∙ c.in-Some.ensures.steps.0)).0 in
    subst (λ worker. g.J.Job.may_do c.args.job.now worker c.in-Some.state) (ap (λ n. n + 1) (sym c.loop-state.invariant.1)) (c.requires.may done c.in-Some.state at)

pub loop-state-preserved : goal.loop-state-preserved
loop-state-preserved g c =
    let done = length (vec_items c.loop-state.started) in
    let next = drop_first (vec_items c.args.states) (into_iter_items c.next.new.self) done c.in-Some.state (sym c.loop-state.invariant.2 ∙ c.in-Some.ensures.steps.0) in
    let items = c.in_ok-push.ensures.items in
    let more = ap length items ∙ length_push (vec_items c.loop-state.started) c.in-Some-start.handle in
    let task = c.in-Some-start.ensures in (
      tasks_more c.args.job.now (vec_items c.args.states) (vec_items c.loop-state.started) (vec_items c.push.new.self) c.in-Some-start.handle items c.loop-state.invariant.0
          (record {
            job_is = ap (λ (o : Task _ _). o.job.now) task;
            worker_is = ap (λ (o : Task _ _). o.worker) task ∙ ap (λ n. n + 1) c.loop-state.invariant.1;
            state_is = next.0 ∙ ap Some (sym (ap (λ (o : Task _ _). o.state.value) task ∙ c.of.ensures));
          }),
      omega (arith, more, c.loop-state.invariant.1),
      sym next.1 ∙ ap (λ n. drop n (vec_items c.args.states)) (sym more),
    )

pub loop-state-init : goal.loop-state-init
loop-state-init g c = (λ i h at. search rules, search rules, search rules)
