use Rattle.std.proofs.Common.{arith}
use Rattle.announce_board.proofs.Found.{loads_mail}
use Rattle.announce_board.proofs.serving.load_mail.Goals as goal

pub load-requires : goal.load-requires
load-requires g c =
    let at = c.requires.pen in (
      c.requires.here,
      omega (arith, c.control_index.ensures, at.inside),
      c.law_steps_are_allowed.ensures.read_mail _ _ _ _ _ _ at.is _ c.args.place c.control_index.ensures at.within at.leads,
    )

pub returns-clause-loads : goal.returns-clause-loads
returns-clause-loads g c = loads_mail c.args.place _ _ _ _ (c.load.ensures.2 c.args.place c.control_index.ensures) c.post_in_word.ensures
