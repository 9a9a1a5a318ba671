-- The count is on a ledger of its own.
use Rattle.leftist_heap.proofs.leftist.Leftist.clear.Given as goal

abbrev pub ghosts-pop_all : goal.ghosts-pop_all
ghosts-pop_all g a = record { name = a.blank.name; parts = a.blank.parts }
