-- An item of the queue: a priority, by which the queue is ordered, and a value, which it carries.
use Rattle.std.specs.Prelude.{ℕ, ◌+◌, ◌*◌, ◌^◌, ◌<◌, Bool, true, false, nat_le}

-- an item as contracts see it, whatever the width of its parts
pub record Item : Type 0 where
  pub priority : ℕ
  pub value : ℕ

-- the parts of a wide item have 64 bits, else 32
abbrev pub bound_of : Bool → ℕ
bound_of true = 2 ^ 64
bound_of false = 2 ^ 32

-- the item with this priority and this value
abbrev pub item : ℕ → ℕ → Item
item priority value = record { priority = priority; value = value }

-- the range of wide items, or of narrow ones
abbrev pub IsItemOf : Bool → Item → Type 0
IsItemOf wide x = (x.priority < bound_of wide) × (x.value < bound_of wide)

-- the range of items: both parts have 32 bits
abbrev pub IsItem : Item → Type 0
IsItem = IsItemOf false

-- the order of items, by priority alone: x is not above y
abbrev pub not_above : Item → Item → Bool
not_above x y = nat_le x.priority y.priority

-- the item as one word: the priority in the upper half, the value in the lower
abbrev pub item_word : Item → ℕ
item_word x = x.priority * 2 ^ 32 + x.value
