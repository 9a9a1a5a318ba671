-- What those who wait at a Book depend on, and the Book once it has woken whom it is to wake.
use Rattle.std.specs.Prelude.{ℕ, nat_le, List, [], ◌∷◌, length, Option, Some, None}
use Rattle.pq_types.specs.Item.{Item}
use Rattle.pq_types.specs.History.{left, is_shut}
use Rattle.wait_list.specs.declared.waiter.Waiter.{Waiter}
use Rattle.wait_list.specs.declared.stock.Stock.{Stock}
use Rattle.wait_list.specs.Settled.{IsSettled, settled}
use Rattle.pq_book.specs.Book.{Volume}

-- the priority of the first item, where there is one
abbrev pub first_priority : List Item → Option ℕ
first_priority [] = None
first_priority (x ∷ xs) = Some x.priority

-- what the Book has: its items, its bound, whether it is shut, and whether its journal has no line left
abbrev pub stock_of : Volume → Stock
stock_of book =
    record {
      first = first_priority (left book.journal);
      items = length (left book.journal);
      bound = book.bound;
      is_shut = is_shut book.journal;
      is_spent = nat_le book.room (length book.journal);
    }

-- the same Book, at which these wait
abbrev pub with_waiters : Volume → List Waiter → Volume
with_waiters book ws = record book { waiters = ws }

-- the same Book once it has woken whom it is to wake
abbrev pub settled_book : Volume → Volume
settled_book book = with_waiters book (settled (stock_of book) book.waiters)

-- no thread sleeps beside an item that it could take, unless one that could was woken and has not come back; and so of all others
abbrev pub IsSettledBook : Volume → Type 0
IsSettledBook book = IsSettled (stock_of book) book.waiters
