use Rattle.std.proofs.Common.{◌≡◌, ◌∙◌, ◌++◌, [], ap, sym, arith, length, rules, take, drop}
use Rattle.std.proofs.lemmas.List.{append-nil, take-append-drop}
use Rattle.std.proofs.Math.ListN.{drop_of_length-le}
use Rattle.pq_types.specs.Item.{Item}
use Rattle.pq_types.specs.Queue.{with_item}
use Rattle.readme_examples.specs.Deadlines.{due_at}
use Rattle.readme_examples.specs.Agenda.{Held}
use Rattle.readme_examples.proofs.Ordered.{due_with_next, length-with}
use Rattle.readme_examples.proofs.deadlines.running_order.Goals as goal

-- one job more has arrived
pub loop-job-preserved : goal.loop-job-preserved
loop-job-preserved c = record {
  ascending = c.push.ensures.ascending;
  arrival = λ deadline.
      due_with_next deadline _ _ c.job-item.result _ _ c.loop-job-test.true c.loop-job.invariant.ascending (c.loop-job.invariant.arrival deadline)
      (ap (λ (h : Held). h.items) c.in_ok-push.ensures.ok ∙ ap (λ (x : Item). with_item x c.loop-job.agenda.items) c.job-item.is);
  count =
      let longer = ap (λ (h : Held). length h.items) c.in_ok-push.ensures.ok ∙ length-with _ c.loop-job.agenda.items in
      omega (arith, longer, c.loop-job.invariant.count);
  lines = let next = ap (λ (h : Held). h.lines) c.in_ok-push.ensures.ok in omega (arith, next, c.loop-job.invariant.lines);
  room = let same = ap (λ (h : Held). h.room) c.in_ok-push.ensures.ok in omega (arith, same, c.loop-job.invariant.room);
}

-- all that arrived was taken out
pub returns-clause-arrival : goal.returns-clause-arrival
returns-clause-arrival c deadline =
    let all : c.loop-order.order.items ≡ c.loop-job.agenda.items = search rules in
    let jobs = c.args.jobs.now in
    let came = take c.loop-job.job-index jobs in
    let none : drop c.loop-job.job-index jobs ≡ [] = drop_of_length-le jobs (omega (arith, c.loop-job-test.false)) in
    let arrived : came ≡ jobs = sym (append-nil came) ∙ (ap (λ ys. came ++ ys) (sym none) ∙ take-append-drop c.loop-job.job-index jobs) in
    ap (due_at deadline) all ∙ (c.loop-job.invariant.arrival deadline ∙ ap (due_at deadline) arrived)
