-- The count is on a ledger of its own.
use Rattle.leftist_heap.proofs.ticket_heap.TicketHeapTicketStore.find.Given as goal

abbrev pub ghosts-find_counting : goal.ghosts-find_counting
ghosts-find_counting g a = record { name = a.blank.name; parts = a.blank.parts }
