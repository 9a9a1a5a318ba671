-- The places that a table in levels keeps in memory of the global allocator.
use Rattle.std.specs.Prelude.{map}
use Rattle.leftist_heap.specs.declared.global_places.GlobalPlaces.{GlobalPlaces}
use Rattle.leftist_heap.specs.declared.global_places.Twig.{Twig}
use Rattle.leftist_heap.specs.Places.{Table, leaf_table, branch_table}

-- the places of its leaves, one after the other
abbrev pub twig_table : Twig → Table
twig_table t = branch_table 64 (map (λ leaf. leaf_table leaf.cells.items) t.leaves.levels.items)

-- its places: each level has those of the levels below it, from its first ticket on
abbrev pub global_table : GlobalPlaces → Table
global_table p = branch_table 16777216 (map (λ high. branch_table 32768 (map twig_table high.levels.items)) p.levels.levels.items)
