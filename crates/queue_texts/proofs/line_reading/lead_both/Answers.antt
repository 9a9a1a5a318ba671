use Rattle.queue_texts.proofs.Shapes.{if_none, no_second}
use Rattle.queue_texts.proofs.line_reading.lead_both.Goals as goal

pub returns-in_err-first-clause-none : goal.returns-in_err-first-clause-none
returns-in_err-first-clause-none c = if_none _ _ c.from_residual.ensures (λ m n rest h. c.in_err-first.ensures.none m h.0 h.1)

pub returns-in_err-second-clause-none : goal.returns-in_err-second-clause-none
returns-in_err-second-clause-none c =
    if_none _ _ c.from_residual-in_err-second.ensures (no_second _ _ _ c.in_ok-first.ensures.some.1 c.in_err-second.ensures.none)
