-- Laws of every journal: which entries it leaves, and which line takes out what a line put in.
use Rattle.std.specs.Prelude.{◌≡◌, ℕ, ◌<◌, ◌⊎◌, List, map, Some}
use Rattle.std.specs.List.{AllByRecursion}
use Rattle.pq_types.specs.Item.{Item, item}
use Rattle.pq_types.specs.declared.answer.Reply.TheVariants.{Got}
use Rattle.pq_types.specs.Asked.{Line}
use Rattle.pq_types.specs.Operation.{ByTicket, Move}
use Rattle.pq_types.specs.Entry.{item_of, item_at}
use Rattle.pq_types.specs.History.{entries_of, left, IsLegal}
use Rattle.pq_types.specs.Outs.{StandsAt, IsPutInOn, IsTakenOn, IsUsedOn, IsOutOn}

-- the items of the entries that a journal leaves are what it leaves
abbrev pub EntriesAreItems : Type 0
EntriesAreItems = (journal : List Line) → map item_of (entries_of journal) ≡ left journal

-- each entry has the line that put it in
abbrev pub EntriesArePutIn : Type 0
EntriesArePutIn = (journal : List Line) → AllByRecursion (λ e. IsPutInOn journal e.line (item_of e)) (entries_of journal)

-- What a line put in waits, as it was put in, or a line took it out.
abbrev pub WaitsOrIsOut : Type 0
WaitsOrIsOut = (journal : List Line) (i : ℕ) (x : Item) → IsPutInOn journal i x
    → (item_at i (entries_of journal) ≡ Some x) ⊎ ((h : ℕ) × IsOutOn journal i h)

-- Of two items of one priority the one that the lower line put in is popped first, or was removed or moved before.
abbrev pub FirstInFirstOut : Type 0
FirstInFirstOut =
    (journal : List Line) (i j k : ℕ) (x y : Item) → i < j → IsPutInOn journal i x → IsPutInOn journal j y
    → x.priority ≡ y.priority
    → IsTakenOn journal j k → (h : ℕ) × (h < k) × IsOutOn journal i h

-- In a legal journal the pop that takes out what a line put in replies with that item.
abbrev pub TakenAreTold : Type 0
TakenAreTold = (journal : List Line) (i k : ℕ) → IsLegal journal → (taken : IsTakenOn journal i k)
    → (x : Item) × IsPutInOn journal i x × (taken.0.reply ≡ Got x)

-- what a line put in goes out once
abbrev pub OutOnce : Type 0
OutOnce = (journal : List Line) (i h k : ℕ) → IsOutOn journal i h → IsOutOn journal i k → h ≡ k

-- In a legal journal the line that takes out what a line put in, by a pop, a removal or a move, replies with that item.
abbrev pub OutAreTold : Type 0
OutAreTold = (journal : List Line) (i k : ℕ) (l : Line) → IsLegal journal → IsOutOn journal i k → StandsAt journal k l
    → (x : Item) × IsPutInOn journal i x × (l.reply ≡ Got x)

-- A move puts in again what it takes out: an item of the same value, with its priority.
abbrev pub MovedAreSame : Type 0
MovedAreSame =
    (journal : List Line) (i k priority : ℕ) (x : Item) (l : Line) → StandsAt journal k l
    → l.operation ≡ ByTicket (Move i priority) → IsUsedOn journal i k → IsPutInOn journal i x
    → IsPutInOn journal k (item priority x.value)
