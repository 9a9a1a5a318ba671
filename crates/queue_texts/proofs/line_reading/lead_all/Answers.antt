use Rattle.queue_texts.proofs.Shapes.{if_none, no_place, no_serial}
use Rattle.queue_texts.proofs.line_reading.lead_all.Goals as goal

pub returns-in_err-number-clause-none : goal.returns-in_err-number-clause-none
returns-in_err-number-clause-none c = if_none _ _ c.from_residual.ensures (λ n p s rest h. c.in_err-number.ensures.none n h.from_place h.number_is)

pub returns-in_err-place-clause-none : goal.returns-in_err-place-clause-none
returns-in_err-place-clause-none c =
    if_none _ _ c.from_residual-in_err-place.ensures (no_place _ _ _ c.in_ok-number.ensures.some.1 c.in_err-place.ensures.none)

pub returns-in_err-serial-clause-none : goal.returns-in_err-serial-clause-none
returns-in_err-serial-clause-none c =
    if_none _ _ c.from_residual-in_err-serial.ensures
    (no_serial _ _ _ _ _ c.in_ok-number.ensures.some.1 c.in_ok-place.ensures.some.1 c.in_err-serial.ensures.none)
