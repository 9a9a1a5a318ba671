-- Where the items of a heap in an array lie, by their tickets.
use Rattle.std.specs.Prelude.{◌≡◌, ℕ, ◌-◌, ◌/◌, ◌%◌, ◌<◌, ◌^◌, ◌≢◌, ◌⊎◌, Bool, true, false, nat_lt, List, length, slice_index_or, Option, Some, None}
use Rattle.std.specs.declared.cmp.Ordering.{Ordering}
use Rattle.leftist_heap.specs.Order.{by_rank, AreRanked}
use Rattle.leftist_heap.specs.Sifting.{IsHeapBy, StandsBefore}

-- The place of each ticket, and whether it is kept: the place of a ticket that isn't kept says nothing.
pub record Table : Type 0 where
  pub place_of : ℕ → ℕ
  pub keeps : ℕ → Bool

-- after has this place for this ticket, where that is kept, and the places of before for all others
pub record IsMarked (before after : Table) (ticket place : ℕ) : Type 0 where
  pub marked : before.keeps ticket ≡ true → after.place_of ticket ≡ place
  pub others : (t : ℕ) → t ≢ ticket → after.place_of t ≡ before.place_of t
  pub kept : (t : ℕ) → after.keeps t ≡ before.keeps t

-- after keeps each ticket that before keeps, and its place
abbrev pub StillKeeps : Table → Table → Type 0
StillKeeps before after = (t : ℕ) → before.keeps t ≡ true → (after.keeps t ≡ true) × (after.place_of t ≡ before.place_of t)

-- after keeps each other ticket that before keeps, and its place
abbrev pub StillKeepsBut : Table → Table → ℕ → Type 0
StillKeepsBut before after ticket =
    (t : ℕ) → t ≢ ticket → before.keeps t ≡ true → (after.keeps t ≡ true) × (after.place_of t ≡ before.place_of t)

-- the table of these places, of which the first is that of ticket 0
abbrev pub flat_table : List ℕ → Table
flat_table places = record { place_of = λ t. slice_index_or places t 0; keeps = λ t. nat_lt t (length places) }

-- no ticket is kept
abbrev pub KeepsNone : Table → Type 0
KeepsNone table = (t : ℕ) → table.keeps t ≡ false

-- the table of these cells, each of which has one more than the place of its ticket, or 0 where that isn't kept
abbrev pub leaf_table : List ℕ → Table
leaf_table cells = record { place_of = λ t. slice_index_or cells t 0 - 1; keeps = λ t. nat_lt 0 (slice_index_or cells t 0) }

-- the table that keeps nothing
abbrev pub bare_table : Table
bare_table = record { place_of = λ t. 0; keeps = λ t. false }

-- the table of these tables of so many tickets each, of which the first begins with ticket 0
abbrev pub branch_table : ℕ → List Table → Table
branch_table span tables = record {
  place_of = λ t. (slice_index_or tables (t / span) bare_table).place_of (t % span);
  keeps = λ t. (slice_index_or tables (t / span) bare_table).keeps (t % span);
}

-- by this answer the item at n may stand before the one that was found, if any; or else that before it
abbrev pub IsLowerThanFound : {X : Type 0} → (X → X → Bool) → List X → ℕ → Option ℕ → Bool → Type 0
IsLowerThanFound goes_before xs n None answer = answer ≡ true
IsLowerThanFound goes_before xs n (Some j) answer =
    ((answer ≡ true) × StandsBefore goes_before xs n j) ⊎ ((answer ≡ false) × StandsBefore goes_before xs j n)

module _ {X : Type 0} (ticket_of : X → ℕ) where
  -- the ticket of each item is kept, with the item's place
  pub record IsPlaced (table : Table) (xs : List X) : Type 0 where
    pub kept : (k : ℕ) (d : X) → k < length xs → table.keeps (ticket_of (slice_index_or xs k d)) ≡ true
    pub there : (k : ℕ) (d : X) → k < length xs → table.place_of (ticket_of (slice_index_or xs k d)) ≡ k

  -- the same, but that the place of the item at j may be wrong: no other item has its ticket
  pub record IsPlacedBut (table : Table) (xs : List X) (j : ℕ) : Type 0 where
    pub kept : (k : ℕ) (d : X) → k < length xs → table.keeps (ticket_of (slice_index_or xs k d)) ≡ true
    pub there : (k : ℕ) (d : X) → k < length xs → (k ≢ j) → table.place_of (ticket_of (slice_index_or xs k d)) ≡ k
    pub apart : (k : ℕ) (d : X) → k < length xs → (k ≢ j) → ticket_of (slice_index_or xs k d) ≢ ticket_of (slice_index_or xs j d)

  -- none of the first n items has this ticket
  abbrev pub HasNone : List X → ℕ → ℕ → Type 0
  HasNone xs n ticket = (k : ℕ) (d : X) → k < n → ticket_of (slice_index_or xs k d) ≢ ticket

  module _ (goes_before : X → X → Bool) where
    -- of the first n items with this ticket, the one at j may stand before all
    pub record IsFirstWith (xs : List X) (n ticket j : ℕ) : Type 0 where
      pub within : j < n
      pub has : (d : X) → ticket_of (slice_index_or xs j d) ≡ ticket
      pub first : (k : ℕ) (d : X) → k < n → ticket_of (slice_index_or xs k d) ≡ ticket
          → goes_before (slice_index_or xs j d) (slice_index_or xs k d) ≡ true

    -- what is found of the first n items by this ticket
    abbrev pub Finds : List X → ℕ → ℕ → Option ℕ → Type 0
    Finds xs n ticket None = HasNone xs n ticket
    Finds xs n ticket (Some j) = IsFirstWith xs n ticket j

  module _ (cmp : X → X → Ordering) (rank_of : X → ℕ) where
    -- the array of a heap of fewer than 2^32 items; where places are kept, each item's place is right
    pub record IsTicketHeap (table : Table) (xs : List X) (is_placed : Bool) : Type 0 where
      pub heap : IsHeapBy (by_rank rank_of) xs
      pub ranked : AreRanked cmp rank_of xs
      pub few : length xs < 2 ^ 32
      pub placed : is_placed ≡ true → IsPlaced table xs
