-- The Book in the slot of a desk's table.
use Rattle.std.proofs.Common.{◌≡◌, refl}
use Rattle.std.specs.Prelude.{Option, Some, None}
use Rattle.pq_book.specs.Book.{Volume}
use Rattle.announce_board.specs.declared.terms.Terms.{Terms}
use Rattle.announce_board.specs.Slots.{slotted, book_of}

pub book_back : (o : Option Volume) (terms : Terms) → o ≡ book_of (slotted o terms)
book_back None terms = refl
book_back (Some book) terms = refl
