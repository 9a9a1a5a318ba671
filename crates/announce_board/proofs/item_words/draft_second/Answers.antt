use Rattle.std.proofs.Common.{ap, arith}
use Rattle.pq_types.specs.Item.{item}
use Rattle.desk_core.specs.Layout.{item_at}
use Rattle.announce_board.proofs.ItemSteps.{two_words, second_is}
use Rattle.announce_board.proofs.item_words.draft_second.Goals as goal

pub store-requires : goal.store-requires
store-requires g c =
    let at = c.requires.pen in (
      c.requires.here,
      omega (arith, c.item_index.ensures, at.inside),
      c.law_steps_are_allowed.ensures.draft _ _ _ _ _ _ at.is _ _ 1 (item c.args.priority c.args.value) (omega (arith, c.item_index.ensures, ap item_at at.here)) (second_is g.P.Part.wide (item c.args.priority c.args.value) c.requires.wide) (two_words g.P.Part.wide c.requires.wide) c.requires.idle c.requires.fits,
    )
