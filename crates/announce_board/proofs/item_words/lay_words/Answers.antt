use Rattle.std.proofs.Common.{sym, ◌∙◌}
use Rattle.announce_board.proofs.ItemSteps.{laid_narrow, laid_serving, laid_due, laid_wide}
use Rattle.announce_board.proofs.item_words.lay_words.Goals as goal

pub returns-then-not-is_wide-clause-after : goal.returns-then-not-is_wide-clause-after
returns-then-not-is_wide-clause-after g c = λ due e. laid_narrow g.P.Part.wide due _ _ _ (sym c.is_wide.ensures ∙ c.if-not-is_wide.true) (c.lay_first.ensures.laid due e)

pub lay_second-requires-clause-pen : goal.lay_second-requires-clause-pen
lay_second-requires-clause-pen g c = let due = c.requires.due in laid_serving g.P.Part.wide _ _ _ due.0 _ _ _ c.requires.pen (c.lay_first.ensures.laid due.0 due.1)

pub lay_second-requires-clause-due : goal.lay_second-requires-clause-due
lay_second-requires-clause-due g c = let due = c.requires.due in (_, laid_due g.P.Part.wide due.0 _ _ _ (c.lay_first.ensures.laid due.0 due.1), due.2, due.3)

pub returns-clause-after : goal.returns-clause-after
returns-clause-after g c = λ due e. laid_wide c.law_cells_stand.ensures g.P.Part.wide due _ _ _ _ (sym c.is_wide.ensures ∙ c.if-not-is_wide.false) (c.lay_first.ensures.laid due e) c.lay_second.ensures.laid
