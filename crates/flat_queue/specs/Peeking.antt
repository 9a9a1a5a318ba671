-- What a member does that looks at the first item under the lock, and leaves it there.
use Rattle.std.specs.Prelude.{◌≡◌, ℕ, length}
use Rattle.pq_types.specs.Item.{Item}
use Rattle.pq_types.specs.History.{left}
use Rattle.leftist_heap.specs.Store.{first_of}
use Rattle.flat_queue.specs.Members.{Joined}
use Rattle.flat_queue.specs.Looking.{ServesAloneBy}
use Rattle.flat_queue.specs.declared.peeking.Peeked.{Peeked}

-- The member served the others, made no request, and tells of the journal that it knows now which item it leaves first, and how
-- many lines it has.
abbrev pub PeeksBy : ℕ → Joined → Peeked Item → Joined → Type 0
PeeksBy words before seen after =
    ServesAloneBy words before after × (seen.first ≡ first_of (left after.pen.known)) × (seen.entries ≡ length after.pen.known)
