-- The count is on a ledger of its own.
use Rattle.unproved_tests.proofs.structures.memory.pop_absorb_and_clear_ask_for_no_memory.Given as goal

abbrev pub ghosts-absorbs_and_clears : goal.ghosts-absorbs_and_clears
ghosts-absorbs_and_clears g a = record { name = a.blank.name; parts = a.blank.parts }
