-- When a request of a member's own is not refused for want of memory.
use Rattle.std.specs.Prelude.{ℕ, ◌+◌, List, length}
use Rattle.pq_types.specs.Asked.{Line}
use Rattle.pq_types.specs.History.{left}
use Rattle.pq_book.specs.Book.{AllHaveRoom}

-- Every store of the queue's kind has room for one item more than this journal leaves: the argument says how many each has
-- room for.
abbrev pub HasSpareRoom : {S : Type 0} → (S → ℕ) → List Line → Type 0
HasSpareRoom room journal = AllHaveRoom room (length (left journal) + 1)
