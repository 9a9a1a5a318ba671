-- The room that the journal of a load's queue has.
use Rattle.std.specs.Prelude.{ℕ, ◌≤◌, nat_le, if◌then◌else◌, Option, Some, None}
use Rattle.pq_types.specs.declared.journal.TheConstants.{MOST_LINES, GREATEST_NUMBER}
use Rattle.pq_book.specs.Book.{Volume}
use Rattle.flat_queue.specs.Limits.{most_posts}
use Rattle.flat_queue.specs.Members.{QueueName}
use Rattle.program_words.specs.declared.plan.Plan.{Plan}
use Rattle.program_words.specs.Lines.{lines_of, each_of}

-- a short queue has room for so many lines exactly, where there are no more than it may have; else it is a lasting one
abbrev pub room_for : ℕ → ℕ
room_for lines = if nat_le lines MOST_LINES then lines else GREATEST_NUMBER

-- the room of the queue of this load
abbrev pub load_room : Plan → ℕ
load_room plan = room_for (lines_of plan)

-- the Book of a short queue is handed back, and no other
abbrev pub book_kept : Plan → Volume → Option Volume
book_kept plan book = if nat_le (lines_of plan) MOST_LINES then Some book else None

-- each worker may post all its requests
abbrev pub MayPostAll : QueueName → Plan → Type 0
MayPostAll queue plan = each_of plan ≤ most_posts queue.room
