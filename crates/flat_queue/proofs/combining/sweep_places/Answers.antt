use Rattle.std.proofs.Common.{◌≡◌, ◌∙◌, ◌+◌, sym, subst, arith, true, false}
use Rattle.desk_core.specs.Words.{word_number}
use Rattle.flat_queue.specs.Sweeping.{IsServedBy}
use Rattle.flat_queue.proofs.Sweeping.{keeps_on, still_trans}
use Rattle.flat_queue.proofs.combining.sweep_places.Goals as goal

pub loop-place-preserved-then-serve : goal.loop-place-preserved-then-serve
loop-place-preserved-then-serve g c =
    let i = c.loop-place.invariant in
    let e = c.in-Some.ensures in
    record {
      still = still_trans _ _ _ i.still e.still;
      steps = omega (arith, i.steps, e.steps);
      table = c.serve.ensures.table ∙ i.table;
      lead = c.serve.ensures.lead;
      limits = c.serve.ensures.limits ∙ i.limits;
      served = subst (λ l. IsServedBy (word_number g.P.Part.wide) l (c.loop-place.served + 1) c.args.pen.now.state c.serve.new.pen.state) (sym e.answer.found)
          (keeps_on _ c.loop-place.stopped.scan.found c.loop-place.served c.args.pen.now.state c.loop-place.pen.state c.serve.new.pen.state true c.in-Some.place c.serve.new.lead.book i.served c.if-serve.ensures.serves);
      few = omega (arith, i.few, e.answer.onward, e.answer.doors);
    }

pub loop-place-preserved : goal.loop-place-preserved
loop-place-preserved g c =
    let i = c.loop-place.invariant in
    let e = c.in-Some.ensures in
    let none : c.loop-place.served + 0 ≡ c.loop-place.served = omega arith in
    record {
      still = still_trans _ _ _ i.still e.still;
      steps = omega (arith, i.steps, e.steps);
      table = c.serve.ensures.table ∙ i.table;
      lead = c.serve.ensures.lead;
      limits = c.serve.ensures.limits ∙ i.limits;
      served = subst (λ n. IsServedBy (word_number g.P.Part.wide) c.scan_next.new.stopped.scan.found n c.args.pen.now.state c.serve.new.pen.state) none (subst (λ l. IsServedBy (word_number g.P.Part.wide) l (c.loop-place.served + 0) c.args.pen.now.state c.serve.new.pen.state) (sym e.answer.found)
          (keeps_on _ c.loop-place.stopped.scan.found c.loop-place.served c.args.pen.now.state c.loop-place.pen.state c.serve.new.pen.state false c.in-Some.place c.serve.new.lead.book i.served c.if-serve.ensures.serves));
      few = omega (arith, i.few, e.answer.onward, e.answer.doors);
    }
