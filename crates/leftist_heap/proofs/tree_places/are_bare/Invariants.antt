use Rattle.std.proofs.Common.{ℕ, ◌<◌, map, slice_index_or}
use Rattle.leftist_heap.specs.Places.{KeepsNone, bare_table}
use Rattle.leftist_heap.proofs.tree_places.are_bare.Given as goal

abbrev pub invariant-loop-at : goal.invariant-loop-at
invariant-loop-at g l = (k : ℕ) → k < l.at → KeepsNone (slice_index_or (map g.L.Places.table l.levels) k bare_table)
