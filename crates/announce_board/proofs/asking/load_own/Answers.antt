use Rattle.std.proofs.Common.{ap, ◌∙◌, arith}
use Rattle.desk_core.specs.Layout.{control_at}
use Rattle.announce_board.proofs.Found.{loads_own, loads_other}
use Rattle.announce_board.proofs.asking.load_own.Goals as goal

pub load-requires : goal.load-requires
load-requires g c =
    let at = c.requires.pen in
    let waits = c.requires.waits in (
      c.requires.here,
      omega (arith, c.control_index.ensures, at.inside, ap control_at at.here),
      c.law_steps_are_allowed.ensures.look _ _ _ _ _ _ at.is _ waits.0 (c.control_index.ensures ∙ ap control_at at.here) waits.1,
    )

pub returns-clause-loads : goal.returns-clause-loads
returns-clause-loads g c = loads_own _ _ _ _ c.requires.waits (λ q waits. (c.load.ensures.2 q waits).0) c.notice_in_word.ensures

pub returns-clause-memory : goal.returns-clause-memory
returns-clause-memory g c = loads_other _ _ _ _ _ c.requires.waits c.load.ensures.2 c.notice_in_word.ensures
