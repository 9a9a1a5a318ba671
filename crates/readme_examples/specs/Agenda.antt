-- What a contract sees of an agenda.
use Rattle.std.specs.Prelude.{◌≡◌, ℕ, ◌+◌, ◌≤◌, false, List, length}
use Rattle.pq_types.specs.Item.{Item}
use Rattle.pq_types.specs.Asked.{Request}
use Rattle.pq_types.specs.Asked.{Answer}
use Rattle.pq_types.specs.declared.answer.Answer.TheVariants.{Entered, BookFull, NoMemory, Refused}
use Rattle.pq_types.specs.Asked.{Line}
use Rattle.pq_types.specs.History.{left, is_shut, last_serial}
use Rattle.pq_types.specs.Queue.{content_after}
use Rattle.pq_book.specs.Book.{Volume, IsPlain}

-- the items that it holds, in the order in which they come out; how many lines its journal has, and
-- for how many it has room
pub record Held : Type 0 where
  pub items : List Item
  pub lines : ℕ
  pub room : ℕ

-- What an agenda keeps of its Book: no serial is above the number of its last line; it has no bound, and forgets; and it is not
-- shut.
pub record IsOpen (book : Volume) : Type 0 where
  pub numbered : last_serial 0 book.journal ≤ length book.journal
  pub plain : IsPlain book
  pub unshut : is_shut book.journal ≡ false

-- the journal after a request that was answered so: an entered one is carried out on what was left
-- and takes a line, any other leaves the journal as it was
abbrev pub Leaves : List Line → Request → Answer → List Line → Type 0
Leaves journal request (Entered number reply) after =
    (left after ≡ content_after (left journal) request) × (length after ≡ length journal + 1)
Leaves journal request BookFull after = after ≡ journal
Leaves journal request NoMemory after = after ≡ journal
Leaves journal request (Refused why) after = after ≡ journal
