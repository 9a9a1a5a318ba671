use Rattle.std.proofs.Common.{subst, sym}
use Rattle.pq_types.specs.Operation.{Shuts}
use Rattle.announce_board.specs.Asking.{IsAnswerBy}
use Rattle.flat_queue.proofs.OwnRequests.{is_ready}
use Rattle.flat_queue.proofs.Shuttings.{shut_tells}
use Rattle.flat_queue.proofs.queue.Queue.carry_out_shut.Goals as goal

pub release_shut-requires-clause-due : goal.release_shut-requires-clause-due
release_shut-requires-clause-due g c =
    let r = is_ready _ c.serve_others-served.result.read.posted c.args.member.now c.lead.new.member c.serve_others-served.new.member c.in_ok-lead.lead.book c.in_ok-lead.ensures.stays c.in_ok-lead.ensures.wins c.serve_others-served.ensures.sweeps in
    r.due

pub returns-clause-carries : goal.returns-clause-carries
returns-clause-carries g c =
    record {
      carries = record {
        book = c.in_ok-lead.lead.book;
        led = c.lead.new.member;
        ready = c.serve_others-served.new.member;
        won = c.in_ok-lead.ensures.wins;
        stays = c.in_ok-lead.ensures.stays;
        hinted = c.serve_others-served.result.read.posted;
        sweeps = c.serve_others-served.ensures.sweeps;
        released = c.release_shut.ensures.releases;
      };
      fits = subst (λ q. IsAnswerBy q.room Shuts c.release_shut.result) (sym c.requires.queue) c.release_shut.ensures.answers;
    }

pub returns-clause-tells : goal.returns-clause-tells
returns-clause-tells g c = shut_tells c.serve_others-served.new.member c.release_shut.new.member c.release_shut.result c.release_shut.ensures.releases
