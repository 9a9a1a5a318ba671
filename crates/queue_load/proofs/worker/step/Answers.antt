use Rattle.std.proofs.Common.{◌≤◌, sym, subst}
use Rattle.program_words.specs.declared.plan.TheConstants.{MOST_WORKERS}
use Rattle.queue_load.specs.Points.{IsNext}
use Rattle.queue_load.proofs.Coming.{come_on, small_come}
use Rattle.queue_load.proofs.worker.step.Goals as goal

pub returns-clause-ok : goal.returns-clause-ok
returns-clause-ok g c =
    let next = c.next_request-request.result in
    come_on c.args.load.now.plan c.args.point next.1 c.args.handle c.in_ok-handle.handle c.args.tally.now c.ask.new.tally next.0 c.requires.come c.args.load.now.plan.fits.some_pushes
    (subst (λ worker. IsNext g.P.Part.wide worker c.args.load.now.plan c.args.point next.0 next.1) c.id.ensures c.next_request-request.ensures) c.in_ok-handle.ensures.ok

pub next_request-request-requires : goal.next_request-request-requires
next_request-request-requires g c = record { worker = subst (λ n. n ≤ MOST_WORKERS) (sym c.id.ensures) c.requires.worker; within = c.requires.come.within; more = c.requires.more }

pub ask-requires-clause-small : goal.ask-requires-clause-small
ask-requires-clause-small g c = small_come c.args.handle.queue c.args.handle.comer.id c.args.load.now.plan c.args.point c.args.handle c.args.tally.now c.requires.come c.args.load.now.plan.fits c.requires.more
