use Rattle.std.proofs.Common.{◌∙◌, ap}
use Rattle.pq_types.specs.Entry.{item_at}
use Rattle.pq_types.specs.History.{entries_of}
use Rattle.pq_book.specs.Book.{Volume}
use Rattle.pq_book.proofs.book.Book.item_at.Goals as goal

pub returns : goal.returns
returns g c =
    c.found.ensures ∙ ap (item_at c.args.ticket) (c.self.invariant.0.entries_are ∙ ap (λ (b : Volume). entries_of b.journal) c.self.view_is)
