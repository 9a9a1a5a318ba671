-- They show nothing, so several threads may see them.
use denote.Param.Send.{IsSync, part_keyless}
use Rattle.pq_book.specs.contracts.forgotten.Forgotten.{the_row}
use Rattle.pq_book.proofs.forgotten.Forgotten.TheSendSync.Send.{send}

pub sync : IsSync the_row
sync = record { shared = λ d b o κ q. part_keyless the_row send q d b o }
