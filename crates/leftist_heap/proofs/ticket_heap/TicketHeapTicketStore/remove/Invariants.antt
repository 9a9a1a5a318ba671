-- The count is on a ledger of its own.
use Rattle.leftist_heap.proofs.ticket_heap.TicketHeapTicketStore.remove.Given as goal

abbrev pub ghosts-remove_counting : goal.ghosts-remove_counting
ghosts-remove_counting g a = record { name = a.blank.name; parts = a.blank.parts }
