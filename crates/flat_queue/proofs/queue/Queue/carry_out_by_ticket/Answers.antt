use Rattle.std.proofs.Common.{subst, sym}
use Rattle.pq_types.specs.Operation.{ByTicket}
use Rattle.announce_board.specs.Asking.{IsAnswerBy}
use Rattle.flat_queue.proofs.OwnRequests.{is_ready, spare_own}
use Rattle.flat_queue.proofs.TicketUses.{use_tells}
use Rattle.flat_queue.proofs.queue.Queue.carry_out_by_ticket.Goals as goal

pub release_by_ticket-requires-clause-due : goal.release_by_ticket-requires-clause-due
release_by_ticket-requires-clause-due g c =
    let r = is_ready _ c.serve_others-served.result.read.posted c.args.member.now c.lead.new.member c.serve_others-served.new.member c.in_ok-lead.lead.book c.in_ok-lead.ensures.stays c.in_ok-lead.ensures.wins c.serve_others-served.ensures.sweeps in
    r.due

pub returns-clause-carries : goal.returns-clause-carries
returns-clause-carries g c =
    record {
      carries = record {
        book = c.in_ok-lead.lead.book;
        led = c.lead.new.member;
        ready = c.serve_others-served.new.member;
        won = c.in_ok-lead.ensures.wins;
        stays = c.in_ok-lead.ensures.stays;
        hinted = c.serve_others-served.result.read.posted;
        sweeps = c.serve_others-served.ensures.sweeps;
        released = c.release_by_ticket.ensures.releases;
      };
      fits = subst (λ q. IsAnswerBy q.room (ByTicket c.args.ticketed) c.release_by_ticket.result) (sym c.requires.queue) c.release_by_ticket.ensures.answers;
    }

pub returns-clause-tells : goal.returns-clause-tells
returns-clause-tells g c = use_tells _ c.args.ticketed c.args.member.now c.release_by_ticket.new.member c.release_by_ticket.result (returns-clause-carries g c)

pub returns-clause-spare : goal.returns-clause-spare
returns-clause-spare g c =
    λ all e. spare_own g.S.Store.room c.serve_others-served.new.member c.release_by_ticket.new.member (ByTicket c.args.ticketed) c.release_by_ticket.result
    c.release_by_ticket.ensures.releases c.release_by_ticket.ensures.spare all (cc e)
