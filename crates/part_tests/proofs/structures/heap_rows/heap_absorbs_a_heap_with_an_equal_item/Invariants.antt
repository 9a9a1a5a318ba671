-- The count is on a ledger of its own.
use Rattle.part_tests.proofs.structures.heap_rows.heap_absorbs_a_heap_with_an_equal_item.Given as goal

abbrev pub ghosts-absorbs_to : goal.ghosts-absorbs_to
ghosts-absorbs_to g a = record { name = a.blank.name; parts = a.blank.parts }
