use Rattle.std.proofs.Common.{◌∙◌, ap, length}
use Rattle.pq_types.specs.History.{left}
use Rattle.pq_book.specs.Book.{Volume}
use Rattle.pq_book.proofs.KeptLemmas.{as_many_left}
use Rattle.pq_book.proofs.book.Book.items.Goals as goal

pub returns : goal.returns
returns g c =
    c.len.ensures.len ∙ as_many_left _ _ _ _ c.self.invariant.0
    ∙ ap (λ (b : Volume). length (left b.journal)) c.self.view_is
