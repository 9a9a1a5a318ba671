use Rattle.std.proofs.Common.{◌∙◌, ap, sym, subst, arith}
use Rattle.leftist_heap.specs.Order.{with_item_by, not_above_by, IsRankedAmong}
use Rattle.pq_types.specs.Entry.{entry, without}
use Rattle.pq_book.specs.EntryOrder.{entry_cmp, entry_rank}
use Rattle.pq_book.proofs.ByTicket.{without_line, without_put}
use Rattle.pq_book.proofs.LaterEntries.{put_later, ranked_among}
use Rattle.pq_book.proofs.book.by_ticket.put_behind.Goals as goal

pub returns-in-Ok-clause-entries : goal.returns-in-Ok-clause-entries
returns-in-Ok-clause-entries g c _ =
    let old = g.S.Store.content c.args.store.now in
    let new = entry c.args.line c.args.item in
    c.remove.ensures.rest ∙ without_line c.args.ticket (g.S.Store.content c.push.new.self)
    ∙ ap (without c.args.ticket)
    (c.in-Ok.ensures.ok ∙ ap (λ e. with_item_by (not_above_by entry_cmp) e old) c.of.ensures ∙ put_later new old c.requires.lines)
    ∙ without_put c.args.ticket new old (λ same. c.requires.other (sym same)) c.len.ensures.ascending

pub push-requires-clause-ranked : goal.push-requires-clause-ranked
push-requires-clause-ranked g c =
    let old = g.S.Store.content c.args.store.now in
    subst (λ e. IsRankedAmong entry_cmp entry_rank e old) (sym c.of.ensures) (ranked_among (entry c.args.line c.args.item) old (omega arith) c.requires.lines)
