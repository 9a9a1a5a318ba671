use Rattle.queue_texts.proofs.Lines.{no_lead, no_number}
use Rattle.queue_texts.proofs.Shapes.{if_none}
use Rattle.queue_texts.proofs.line_reading.lead.Goals as goal

pub returns-in_err-digits-clause-none : goal.returns-in_err-digits-clause-none
returns-in_err-digits-clause-none c = if_none _ _ c.from_residual.ensures (no_lead _ c.in_err-digits.ensures.none)

pub returns-in_err-number-clause-none : goal.returns-in_err-number-clause-none
returns-in_err-number-clause-none c =
    if_none _ _ c.from_residual-in_err-number.ensures
    (no_number _ _ _ c.in_ok-digits.ensures.some.0 c.in_ok-digits.ensures.some.1 c.in_err-number.ensures.none)
