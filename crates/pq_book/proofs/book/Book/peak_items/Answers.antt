use Rattle.std.proofs.Common.{subst}
use Rattle.pq_book.specs.Book.{Volume}
use Rattle.pq_book.specs.Peak.{IsPeak}
use Rattle.pq_book.proofs.book.Book.peak_items.Goals as goal

pub returns : goal.returns
returns g c = subst (λ (b : Volume). IsPeak b.journal c.self.inside.peak) c.self.view_is c.self.invariant.2
