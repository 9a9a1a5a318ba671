use Rattle.std.proofs.Common.{◌∙◌, ap, sym}
use Rattle.std.specs.Prelude.{Option, Some}
use Rattle.std.specs.Option.{option_map}
use Rattle.pq_types.specs.Entry.{Entry, item_of}
use Rattle.pq_book.proofs.ByTicket.{item_there}
use Rattle.pq_book.proofs.book.by_ticket.found.Goals as goal

pub returns-in-Some : goal.returns-in-Some
returns-in-Some g c =
    let content = g.S.Store.content c.args.store.now in
    ap Some c.item.ensures ∙ ap (λ (found : Option Entry). option_map item_of found) (sym c.in-Some.ensures) ∙ item_there c.args.ticket content

pub returns-in-None : goal.returns-in-None
returns-in-None g c =
    let content = g.S.Store.content c.args.store.now in
    ap (λ (found : Option Entry). option_map item_of found) (sym c.in-None.ensures) ∙ item_there c.args.ticket content
