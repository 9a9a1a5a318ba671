use Rattle.std.proofs.Common.{◌∙◌, length, ap, sym}
use Rattle.pq_types.specs.History.{left}
use Rattle.leftist_heap.specs.Store.{first_of}
use Rattle.pq_book.specs.Book.{Volume}
use Rattle.flat_queue.specs.Members.{Joined}
use Rattle.flat_queue.proofs.Lookings.{serves_alone}
use Rattle.flat_queue.proofs.queue.Queue.peek.Goals as goal

pub returns-clause-peeks : goal.returns-clause-peeks
returns-clause-peeks g c =
    let served = serves_alone _ c.serve_others.result.read.posted c.args.member.now c.lead.new.member c.serve_others.new.member c.release.new.member
    c.in_ok-lead.lead.book c.in_ok-lead.ensures.stays c.in_ok-lead.ensures.wins c.serve_others.ensures.sweeps c.release.ensures in
    let first = c.seen_by-seen.ensures.first ∙ ap (λ (b : Volume). first_of (left b.journal)) c.serve_others.ensures.lead.book
    ∙ ap (λ (m : Joined). first_of (left m.pen.known)) (sym c.release.ensures) in
    let entries = c.seen_by-seen.ensures.entries ∙ ap (λ (b : Volume). length b.journal) c.serve_others.ensures.lead.book
    ∙ ap (λ (m : Joined). length m.pen.known) (sym c.release.ensures) in
    (served, first, entries)
