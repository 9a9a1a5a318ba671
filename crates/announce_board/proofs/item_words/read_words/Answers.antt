use Rattle.std.proofs.Common.{sym, ◌∙◌}
use Rattle.announce_board.proofs.ItemSteps.{read_narrow, read_serving, read_due, read_wide}
use Rattle.announce_board.proofs.item_words.read_words.Goals as goal

pub returns-then-not-is_wide-clause-loads : goal.returns-then-not-is_wide-clause-loads
returns-then-not-is_wide-clause-loads g c =
    let due = c.requires.due in
    read_narrow c.law_words_show_the_desk.ensures.tell_items g.P.Part.wide due.0 _ _ _ _ _ (sym c.is_wide.ensures ∙ c.if-not-is_wide.true) due.1 (c.read_first-first.ensures.read due.0 due.1) c.halves.ensures.fits c.halves.ensures.word

pub read_second-second-requires-clause-pen : goal.read_second-second-requires-clause-pen
read_second-second-requires-clause-pen g c = let due = c.requires.due in read_serving g.P.Part.wide _ _ _ due.0 _ _ _ c.requires.pen (c.read_first-first.ensures.read due.0 due.1)

pub read_second-second-requires-clause-due : goal.read_second-second-requires-clause-due
read_second-second-requires-clause-due g c = let due = c.requires.due in (_, read_due g.P.Part.wide due.0 _ _ _ (c.read_first-first.ensures.read due.0 due.1), due.2, due.3)

pub returns-clause-loads : goal.returns-clause-loads
returns-clause-loads g c =
    let due = c.requires.due in
    read_wide c.law_cells_stand.ensures g.P.Part.wide due.0 _ _ _ _ _ (sym c.is_wide.ensures ∙ c.if-not-is_wide.false) due.1 (c.read_first-first.ensures.read due.0 due.1) c.read_second-second.ensures.read
