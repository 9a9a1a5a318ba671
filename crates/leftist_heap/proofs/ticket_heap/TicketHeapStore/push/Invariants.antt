-- The count is on a ledger of its own.
use Rattle.leftist_heap.proofs.ticket_heap.TicketHeapStore.push.Given as goal

abbrev pub ghosts-push_counting : goal.ghosts-push_counting
ghosts-push_counting g a = record { name = a.blank.name; parts = a.blank.parts }
