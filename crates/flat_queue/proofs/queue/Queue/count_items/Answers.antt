use Rattle.std.proofs.Common.{◌∙◌, length, ap, sym, subst}
use Rattle.pq_types.specs.History.{left}
use Rattle.pq_book.specs.Book.{Volume}
use Rattle.pq_book.specs.Peak.{IsPeak}
use Rattle.flat_queue.specs.Members.{Joined}
use Rattle.flat_queue.specs.Counting.{items_known}
use Rattle.flat_queue.proofs.Lookings.{serves_alone}
use Rattle.flat_queue.proofs.queue.Queue.count_items.Goals as goal

pub returns-clause-counts : goal.returns-clause-counts
returns-clause-counts g c =
    let served = serves_alone _ c.serve_others.result.read.posted c.args.member.now c.lead.new.member c.serve_others.new.member c.release.new.member
    c.in_ok-lead.lead.book c.in_ok-lead.ensures.stays c.in_ok-lead.ensures.wins c.serve_others.ensures.sweeps c.release.ensures in
    let items = c.counts_of-counts.ensures.items ∙ ap (λ (b : Volume). length (left b.journal)) c.serve_others.ensures.lead.book ∙ ap items_known (sym c.release.ensures) in
    let peak_then = subst (λ (b : Volume). IsPeak b.journal c.counts_of-counts.result.peak) c.serve_others.ensures.lead.book c.counts_of-counts.ensures.peak in
    (served, items, subst (λ (m : Joined). IsPeak m.pen.known c.counts_of-counts.result.peak) (sym c.release.ensures) peak_then)
