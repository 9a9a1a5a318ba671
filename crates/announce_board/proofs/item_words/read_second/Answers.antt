use Rattle.std.proofs.Common.{ap, arith}
use Rattle.desk_core.specs.Layout.{item_at}
use Rattle.announce_board.proofs.ItemSteps.{two_words}
use Rattle.announce_board.proofs.item_words.read_second.Goals as goal

pub load-requires : goal.load-requires
load-requires g c =
    let at = c.requires.pen in
    let due = c.requires.due in (
      c.requires.here,
      omega (arith, c.item_index.ensures, at.inside),
      c.law_steps_are_allowed.ensures.read_item _ _ _ _ _ _ at.is _ 1 due.0 (omega (arith, c.item_index.ensures, ap item_at due.2)) (two_words g.P.Part.wide c.requires.wide) (omega (arith, due.2, at.within)) due.1 due.3,
    )
