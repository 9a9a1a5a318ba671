-- What contracts see of an open queue and of lines of a journal.
use Rattle.std.specs.Prelude.{◌≡◌, ℕ, ◌-◌, List, ◌++◌, length, drop, Option}
use Rattle.pq_types.specs.Item.{Item}
use Rattle.pq_types.specs.Asked.{Line}
use Rattle.pq_types.specs.History.{left, IsLegal}
use Rattle.pq_book.specs.Book.{Volume}
use Rattle.pq_book.specs.Pages.{page_of}
use Rattle.flat_queue.specs.Closing.{ClosesAll}
use Rattle.flat_queue.specs.Lengths.{room_of, terms_with}
use Rattle.flat_queue.specs.Opening.{Opens}
use Rattle.flat_queue.specs.declared.length.Length.{Length}
use Rattle.queue_pool.specs.Pool.{Pooled, inside, all_new}

-- the queue was opened for the comers of these ids, with a journal of this length, and the terms of one with that and with this
-- bound, if it has one, and all wait
abbrev pub IsOpened : List ℕ → Length → Option ℕ → Pooled → Type 0
IsOpened ids length bound p =
    Opens ids (room_of length) p.queue p.newcomers × (p.queue.terms ≡ terms_with length bound) × (p ≡ all_new p.queue p.newcomers)

-- lines of a journal, how many came before them, and the items that were left in its queue, the first one first
pub record Told : Type 0 where
  pub before : ℕ
  pub lines : List Line
  pub items : List Item

-- The journal is that of the Book which the pool's queue leaves, closed with all its members: a legal history, that has exactly the
-- calls of each idle one, and no line of another place. These are its lines behind so many: as many as are kept of one with this
-- room, all of a short one. This content is what its requests leave.
pub record IsClosed (pool : Pooled) (before : ℕ) (lines : List Line) (content : List Item) : Type 0 where
  pub book : Volume
  pub closes : ClosesAll pool.queue (pool.idle ++ pool.waiting) book
  pub whole : inside pool ≡ pool.queue.comers
  pub legal : IsLegal book.journal
  pub forgotten : before ≡ length book.journal - page_of pool.queue.room
  pub kept : lines ≡ drop before book.journal
  pub items : content ≡ left book.journal
