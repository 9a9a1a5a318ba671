-- What contracts see of a store whose kind is chosen when it is made.
use Rattle.std.specs.Prelude.{ℕ, List}
use Rattle.leftist_heap.specs.declared.any_store.AnyStore.{AnyStore}
use Rattle.leftist_heap.specs.declared.any_store.AnyStore.TheVariants.{Leftist, Array, Sorted}
use Rattle.leftist_heap.specs.declared.any_store.StoreKind.{StoreKind}
use Rattle.leftist_heap.specs.declared.any_store.StoreKind.TheVariants.{Leftist as LeftistKind, Array as ArrayKind}
use Rattle.leftist_heap.specs.declared.any_store.StoreKind.TheVariants.{Sorted as SortedKind}

-- the ascending list of its items
abbrev pub items_in : {T A : Type 0} → AnyStore T A → List T
items_in (Leftist heap) = heap.items
items_in (Array heap) = heap.items
items_in (Sorted items) = items

-- how many items it surely has room for: an array has its room, and the others may refuse any push
abbrev pub room_in : {T A : Type 0} → AnyStore T A → ℕ
room_in (Leftist heap) = 0
room_in (Array heap) = heap.room
room_in (Sorted items) = 0

-- its kind
abbrev pub kind_of : {T A : Type 0} → AnyStore T A → StoreKind
kind_of (Leftist heap) = LeftistKind
kind_of (Array heap) = ArrayKind
kind_of (Sorted items) = SortedKind
