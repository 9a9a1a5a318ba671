use Rattle.flat_queue.proofs.WaitStepping.{stands_ready}
use Rattle.flat_queue.proofs.queue.Queue.lead_out.Goals as goal

pub returns-clause-leads : goal.returns-clause-leads
returns-clause-leads g c =
    record {
      book = c.in_ok-lead.lead.book;
      led = c.lead.new.member;
      served = c.serve_others-served.new.member;
      won = c.in_ok-lead.ensures.wins;
      stays = c.in_ok-lead.ensures.stays;
      hinted = c.serve_others-served.result.read.posted;
      sweeps = c.serve_others-served.ensures.sweeps;
      leaves = c.take_out-lead.ensures.after;
    }

pub returns-clause-ready : goal.returns-clause-ready
returns-clause-ready g c = stands_ready _ c.args.number c.args.member.now c.take_out-lead.new.member (returns-clause-leads g c)
