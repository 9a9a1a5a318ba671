use Rattle.announce_board.proofs.ItemSteps.{drafted_idle}
use Rattle.announce_board.proofs.item_words.draft_words.Goals as goal

pub draft_second-requires-clause-idle : goal.draft_second-requires-clause-idle
draft_second-requires-clause-idle g c = (_, drafted_idle g.P.Part.wide _ _ _ c.draft_first.ensures.drafted)
