-- They show nothing, so several threads may see them.
use denote.Param.Send.{IsSync, part_keyless}
use Rattle.announce_board.specs.contracts.terms.NamedTerms.{the_row}
use Rattle.announce_board.proofs.terms.NamedTerms.TheSendSync.Send.{send}

pub sync : IsSync the_row
sync = record { shared = λ d b o κ q. part_keyless the_row send q d b o }
