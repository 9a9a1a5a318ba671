-- What a member does that counts the items under the lock.
use Rattle.std.specs.Prelude.{◌≡◌, ℕ, length}
use Rattle.pq_types.specs.History.{left}
use Rattle.pq_book.specs.Peak.{IsPeak}
use Rattle.flat_queue.specs.Members.{Joined}
use Rattle.flat_queue.specs.Looking.{ServesAloneBy}
use Rattle.flat_queue.specs.declared.counting.Counts.{Counts}

-- how many items the journal leaves in the queue that the member knows
abbrev pub items_known : Joined → ℕ
items_known m = length (left m.pen.known)

-- The member served the others, made no request, and counted the items that the journal leaves in the queue which it knows now:
-- so many now, and at its peak.
abbrev pub CountsBy : ℕ → Joined → Counts → Joined → Type 0
CountsBy words before counts after =
    ServesAloneBy words before after × (counts.items ≡ items_known after) × IsPeak after.pen.known counts.peak
