use Rattle.std.proofs.Common.{ℕ, ◌+◌, ◌-◌, map, length}
use Rattle.leftist_heap.specs.Places.{StillKeeps, branch_table}
use Rattle.leftist_heap.proofs.tree_places.reaches.Given as goal

abbrev pub invariant-loop-levels : goal.invariant-loop-levels
invariant-loop-levels g l =
    (span : ℕ) → StillKeeps (branch_table span (map g.L.Places.table l.initial.levels.items)) (branch_table span (map g.L.Places.table l.levels.items))

abbrev pub decreases-loop-levels : goal.decreases-loop-levels
decreases-loop-levels g l = l.place + 1 - length l.levels.items
