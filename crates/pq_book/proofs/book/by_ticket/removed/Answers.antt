use Rattle.std.proofs.Common.{◌∙◌, ap}
use Rattle.std.specs.Prelude.{Option, Some}
use Rattle.std.specs.Option.{option_map}
use Rattle.pq_types.specs.Entry.{Entry, item_of, taken}
use Rattle.pq_book.proofs.ByTicket.{without_line, item_there}
use Rattle.pq_book.proofs.book.by_ticket.removed.Goals as goal

pub returns-in-Some-clause-reply : goal.returns-in-Some-clause-reply
returns-in-Some-clause-reply g c =
    let old = g.S.Store.content c.args.store.now in
    ap (λ x. taken (Some x)) c.item.ensures ∙ ap (λ (found : Option Entry). taken (option_map item_of found)) c.in-Some.ensures.item ∙ ap taken (item_there c.args.ticket old)

pub returns-in-None-clause-reply : goal.returns-in-None-clause-reply
returns-in-None-clause-reply g c =
    let old = g.S.Store.content c.args.store.now in
    ap (λ (found : Option Entry). taken (option_map item_of found)) c.in-None.ensures.item ∙ ap taken (item_there c.args.ticket old)

pub returns-in-Some-clause-entries : goal.returns-in-Some-clause-entries
returns-in-Some-clause-entries g c = c.in-Some.ensures.rest ∙ without_line c.args.ticket (g.S.Store.content c.args.store.now)

pub returns-in-None-clause-entries : goal.returns-in-None-clause-entries
returns-in-None-clause-entries g c = c.in-None.ensures.rest ∙ without_line c.args.ticket (g.S.Store.content c.args.store.now)
