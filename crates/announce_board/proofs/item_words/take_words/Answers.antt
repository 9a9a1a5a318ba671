use Rattle.std.proofs.Common.{sym, ◌∙◌}
use Rattle.announce_board.proofs.ItemSteps.{taken_narrow, taken_wide}
use Rattle.announce_board.proofs.item_words.take_words.Goals as goal

pub returns-then-not-is_wide-clause-takes : goal.returns-then-not-is_wide-clause-takes
returns-then-not-is_wide-clause-takes g c =
    let waits = c.requires.waits in
    taken_narrow c.law_words_show_the_desk.ensures.tell_items g.P.Part.wide waits.0 c.args.notice _ _ _ _ _ (sym c.is_wide.ensures ∙ c.if-not-is_wide.true) waits.1 (c.take_first.ensures.takes waits.0 waits.1) c.halves.ensures.fits c.halves.ensures.word

pub returns-clause-takes : goal.returns-clause-takes
returns-clause-takes g c =
    let waits = c.requires.waits in
    taken_wide c.law_cells_stand.ensures g.P.Part.wide waits.0 c.args.notice _ _ _ _ _ (sym c.is_wide.ensures ∙ c.if-not-is_wide.false) waits.1 c.see_first-first.ensures.sees c.take_second-second.ensures.takes
