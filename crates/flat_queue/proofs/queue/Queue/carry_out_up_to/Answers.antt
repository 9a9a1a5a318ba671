use Rattle.std.proofs.Common.{◌∙◌, ap, subst, sym}
use Rattle.pq_types.specs.History.{left}
use Rattle.leftist_heap.specs.Store.{first_of}
use Rattle.pq_book.specs.Book.{Volume}
use Rattle.announce_board.specs.Asking.{IsAnswerTo}
use Rattle.flat_queue.specs.UpTo.{request_up_to}
use Rattle.flat_queue.proofs.OwnRequests.{is_ready}
use Rattle.flat_queue.proofs.UpTos.{carried_tells}
use Rattle.flat_queue.proofs.queue.Queue.carry_out_up_to.Goals as goal

pub release_with-requires-clause-due : goal.release_with-requires-clause-due
release_with-requires-clause-due g c =
    let r = is_ready _ c.serve_others-served.result.read.posted c.args.member.now c.lead.new.member c.serve_others-served.new.member c.in_ok-lead.lead.book c.in_ok-lead.ensures.stays c.in_ok-lead.ensures.wins c.serve_others-served.ensures.sweeps in
    r.due

-- the first item that was seen is that of the journal in hand
pub returns-clause-carries : goal.returns-clause-carries
returns-clause-carries g c =
    let request = c.choose-request.result in
    record {
      request = request;
      carries = record {
        book = c.in_ok-lead.lead.book;
        led = c.lead.new.member;
        ready = c.serve_others-served.new.member;
        won = c.in_ok-lead.ensures.wins;
        stays = c.in_ok-lead.ensures.stays;
        hinted = c.serve_others-served.result.read.posted;
        sweeps = c.serve_others-served.ensures.sweeps;
        released = c.release_with.ensures.releases;
      };
      fits = subst (λ q. IsAnswerTo q.room request c.release_with.result) (sym c.requires.queue) c.release_with.ensures.answers;
      chosen = c.choose-request.ensures ∙ ap (λ (b : Volume). request_up_to (g.P.Part.number c.args.priority) (first_of (left b.journal))) c.serve_others-served.ensures.lead.book;
    }

pub returns-clause-tells : goal.returns-clause-tells
returns-clause-tells g c = carried_tells _ (g.P.Part.number c.args.priority) c.args.member.now c.release_with.new.member c.release_with.result (returns-clause-carries g c)
