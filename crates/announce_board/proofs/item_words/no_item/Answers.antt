use Rattle.announce_board.proofs.ItemSteps.{zero_in_range}
use Rattle.announce_board.proofs.item_words.no_item.Goals as goal

pub of_parts-requires : goal.of_parts-requires
of_parts-requires g c = zero_in_range g.P.Part.wide
