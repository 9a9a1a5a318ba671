use Rattle.std.proofs.Common.{rules, ◌≡◌, ◌<◌, ap, subst, sym, length}
use Rattle.pq_types.specs.declared.request.Request.TheVariants.{Pop}
use Rattle.pq_types.specs.History.{left, is_shut}
use Rattle.leftist_heap.specs.Store.{first_of}
use Rattle.pq_book.specs.Book.{Volume}
use Rattle.announce_board.specs.Asking.{IsAnswerTo}
use Rattle.flat_queue.specs.Members.{Joined, QueueName}
use Rattle.flat_queue.specs.OwnRequest.{CarriesOutBy}
use Rattle.flat_queue.specs.Looking.{IsLeft, IsFirstWanted, looked_by, LooksFirstBy}
use Rattle.flat_queue.proofs.OwnRequests.{is_ready}
use Rattle.flat_queue.proofs.Lookings.{serves_others, left_looks, popped_looks}
use Rattle.flat_queue.proofs.queue.Queue.take_first.Goals as goal

pub release_with-answer-requires-clause-due : goal.release_with-answer-requires-clause-due
release_with-answer-requires-clause-due g c =
    let r = is_ready _ c.serve_others-served.result.read.posted c.args.member.now c.lead.new.member c.serve_others-served.new.member c.in_ok-lead.lead.book c.in_ok-lead.ensures.stays c.in_ok-lead.ensures.wins c.serve_others-served.ensures.sweeps in
    r.due

pub returns-clause-looks : goal.returns-clause-looks
returns-clause-looks g c =
    let journal = ap (λ (b : Volume). b.journal) c.serve_others-served.ensures.lead.book in
    let here : c.room.result ≡ c.args.member.now.queue.room = search rules in
    let spare = subst (λ n. length c.serve_others-served.new.member.pen.hand < n) here
    (subst (λ l. length l < c.room.result) journal c.in-Some.ensures.some.1) in
    let served = serves_others _ c.serve_others-served.result.read.posted c.args.member.now c.lead.new.member c.serve_others-served.new.member c.release.new.member
    c.in_ok-lead.lead.book c.in_ok-lead.ensures.stays c.in_ok-lead.ensures.wins c.serve_others-served.ensures.sweeps c.release.ensures spare in
    left_looks _ c.args.wanted c.args.member.now c.release.new.member c.in-Some.left served
    (subst (λ (m : Joined). IsLeft c.args.wanted (first_of (left m.pen.known)) (is_shut m.pen.known) c.in-Some.left) (sym c.release.ensures)
    (subst (λ l. IsLeft c.args.wanted (first_of (left l)) (is_shut l) c.in-Some.left) journal c.in-Some.ensures.some.0))

pub returns-in_default-clause-looks : goal.returns-in_default-clause-looks
returns-in_default-clause-looks g c =
    let journal = ap (λ (b : Volume). b.journal) c.serve_others-served.ensures.lead.book in
    let here : c.room.result ≡ c.serve_others-served.new.member.pen.room = search rules in
    let carried : CarriesOutBy _ c.args.member.now Pop c.release_with-answer.result c.release_with-answer.new.member = record {
      book = c.in_ok-lead.lead.book;
      led = c.lead.new.member;
      ready = c.serve_others-served.new.member;
      won = c.in_ok-lead.ensures.wins;
      stays = c.in_ok-lead.ensures.stays;
      hinted = c.serve_others-served.result.read.posted;
      sweeps = c.serve_others-served.ensures.sweeps;
      released = c.release_with-answer.ensures.releases;
    } in
    let fits = subst (λ (q : QueueName). IsAnswerTo q.room Pop c.release_with-answer.result) (sym c.requires.queue) c.release_with-answer.ensures.answers in
    let first = subst (λ r. length c.serve_others-served.new.member.pen.hand < r → IsFirstWanted c.args.wanted (first_of (left c.serve_others-served.new.member.pen.hand))) here
    (subst (λ l. length l < c.room.result → IsFirstWanted c.args.wanted (first_of (left l))) journal c.in_default.ensures.none) in
    subst (λ t. LooksFirstBy _ c.args.wanted c.args.member.now t c.release_with-answer.new.member) (sym c.looked_by.ensures)
    (popped_looks _ c.args.wanted c.args.member.now c.release_with-answer.new.member c.release_with-answer.result carried fits first)
