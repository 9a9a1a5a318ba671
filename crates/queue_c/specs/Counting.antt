-- What the call for C makes of its member that counts the items.
use Rattle.std.specs.Prelude.{◌≡◌, ℕ, true, Option, Some}
use Rattle.announce_board.specs.Tokens.{is_idle}
use Rattle.flat_queue.specs.Members.{Joined}
use Rattle.flat_queue.specs.Counting.{CountsBy}
use Rattle.flat_queue.specs.declared.counting.Counts.{Counts}
use Rattle.queue_c.specs.Calls.{words_of_item}

-- so many items that wait, and so many at the peak
abbrev pub counts_of : ℕ → ℕ → Counts
counts_of items peak = record { items = items; peak = peak }

-- the idle member has found the lock free, and counted so many items
abbrev pub Counting : Option Joined → Counts → Option Joined → Type 0
Counting (Some before) counts (Some after) = (is_idle before.pen.standing ≡ true) × CountsBy words_of_item before counts after
Counting before counts after = ⊥
