use Rattle.flat_queue.proofs.NoteOrder.{notes_keep_order}
use Rattle.flat_queue.proofs.notes.law_notes_keep_order.Goals as goal

pub returns : goal.returns
returns c = notes_keep_order
