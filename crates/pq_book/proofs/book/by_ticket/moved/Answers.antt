use Rattle.std.proofs.Common.{◌∙◌, sym}
use Rattle.pq_types.specs.Operation.{Move}
use Rattle.pq_book.proofs.ByTicket.{not_to_come}
use Rattle.pq_book.proofs.book.by_ticket.moved.Goals as goal

pub returns-in_default-clause-entries : goal.returns-in_default-clause-entries
returns-in_default-clause-entries g c =
    sym (c.law_by_tickets.ensures.unchanged (g.S.Store.content c.args.store.now) c.args.line (Move c.args.ticket (g.P.Part.number c.args.priority)) (sym c.found.ensures ∙ c.in_default.is))

pub put_behind-requires-clause-other : goal.put_behind-requires-clause-other
put_behind-requires-clause-other g c = not_to_come c.args.ticket c.args.line (g.S.Store.content c.args.store.now) c.in-Some.item c.requires.lines (sym c.found.ensures ∙ c.in-Some.is)
