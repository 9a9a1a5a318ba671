-- The count is on a ledger of its own.
use Rattle.leftist_heap.proofs.ticket_heap.TicketHeapStore.pop.Given as goal

abbrev pub ghosts-pop_counting : goal.ghosts-pop_counting
ghosts-pop_counting g a = record { name = a.blank.name; parts = a.blank.parts }
