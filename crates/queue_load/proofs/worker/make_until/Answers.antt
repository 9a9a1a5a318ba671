use Rattle.std.proofs.Common.{◌≡◌, ◌∙◌, ◌-◌, ◌≤◌, sym, subst, arith}
use Rattle.program_words.specs.declared.plan.TheConstants.{MOST_WORKERS}
use Rattle.queue_load.specs.Worker.{HasComeOn}
use Rattle.queue_load.proofs.Coming.{come_none, come_here, come_further, may_come}
use Rattle.queue_load.proofs.worker.make_until.Goals as goal

pub loop-made-init : goal.loop-made-init
loop-made-init g c = come_none c.args.load.now.plan _ c.args.point c.args.handle c.args.tally.now (omega arith) c.requires.come

pub step-requires-clause-come : goal.step-requires-clause-come
step-requires-clause-come g c = come_here c.args.load.now.plan _ c.args.handle c.loop-made.at c.loop-made.here c.loop-made.tally c.loop-made.invariant

pub step-requires-clause-worker : goal.step-requires-clause-worker
step-requires-clause-worker g c =
    let come = c.loop-made.invariant.come in
    subst (λ n. n ≤ MOST_WORKERS) (sym (come.more.id ∙ come.whole.id)) c.requires.worker

pub step-requires-clause-more : goal.step-requires-clause-more
step-requires-clause-more g c =
    (may_come c.args.load.now.plan (c.loop-made.made - c.args.handle.pen.posts) c.args.until c.args.handle c.loop-made.at c.loop-made.here c.loop-made.tally c.loop-made.invariant c.requires.few c.requires.until (omega arith)).1

pub step-requires-clause-few : goal.step-requires-clause-few
step-requires-clause-few g c =
    (may_come c.args.load.now.plan (c.loop-made.made - c.args.handle.pen.posts) c.args.until c.args.handle c.loop-made.at c.loop-made.here c.loop-made.tally c.loop-made.invariant c.requires.few c.requires.until (omega arith)).0

pub loop-made-preserved : goal.loop-made-preserved
loop-made-preserved g c =
    come_further c.args.load.now.plan (c.loop-made.made - c.args.handle.pen.posts) _ c.args.handle c.loop-made.at c.in_ok-next.next c.loop-made.here c.in_ok-next.past c.loop-made.tally c.step.new.tally
    c.loop-made.invariant c.in_ok-next.ensures.ok (omega arith)

pub returns-clause-ok : goal.returns-clause-ok
returns-clause-ok g c =
    let end : c.loop-made.made ≡ c.args.until = omega arith in
    subst (λ n. HasComeOn g.P.Part.wide c.args.handle c.args.load.now.plan (n - c.args.handle.pen.posts) c.loop-made.at c.loop-made.here c.loop-made.tally) end c.loop-made.invariant
