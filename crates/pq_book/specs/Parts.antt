-- What a Book is taken apart into.
use Rattle.std.specs.Prelude.{◌≡◌, ℕ, ◌-◌, ◌≤◌, List, map, length}
use Rattle.pq_types.specs.Asked.{Line}
use Rattle.pq_types.specs.declared.journal.TheConstants.{MOST_LINES}
use Rattle.pq_types.specs.History.{left, entries_of, IsLegal, SerialsRise}
use Rattle.pq_book.specs.Book.{Volume}
use Rattle.pq_types.specs.Entry.{Entry, item_of}
use Rattle.pq_book.specs.Pages.{page_of, AreLast}

-- the entries of the book's store, how many lines of its journal are forgotten, and the others
pub record AreParts (book : Volume) (found : List Entry) (forgotten : ℕ) (lines : List Line) : Type 0 where
  pub entries : found ≡ entries_of book.journal
  pub content : map item_of found ≡ left book.journal
  pub last : AreLast lines forgotten book.journal
  pub page : forgotten ≡ length book.journal - page_of book.room
  pub whole : book.room ≤ MOST_LINES → lines ≡ book.journal
  pub legal : IsLegal book.journal
  pub rise : SerialsRise book.journal
  pub room : length book.journal ≤ book.room
