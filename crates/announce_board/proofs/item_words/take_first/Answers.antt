use Rattle.std.proofs.Common.{ap, arith}
use Rattle.desk_core.specs.Layout.{item_at}
use Rattle.announce_board.proofs.ItemSteps.{one_word}
use Rattle.announce_board.proofs.item_words.take_first.Goals as goal

pub load-requires : goal.load-requires
load-requires g c =
    let at = c.requires.pen in
    let waits = c.requires.waits in (
      c.requires.here,
      omega (arith, c.item_index.ensures, at.inside),
      c.law_steps_are_allowed.ensures.take_item _ _ _ _ _ _ at.is _ 0 waits.0 c.args.notice (omega (arith, c.item_index.ensures, ap item_at at.here)) (one_word g.P.Part.wide) waits.1 c.requires.own c.requires.item,
    )
