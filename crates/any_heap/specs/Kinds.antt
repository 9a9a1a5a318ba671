-- What contracts see of a heap of either kind.
use Rattle.leftist_heap.specs.Holding.{Holding}
use Rattle.any_heap.specs.declared.kind.Kind.{Kind}
use Rattle.any_heap.specs.declared.kind.Kind.TheVariants.{Plain, Ticketed}

-- its items, and its room
abbrev pub held_in : {T : Type 0} → Kind T → Holding T
held_in (Plain heap) = heap
held_in (Ticketed heap) = heap
