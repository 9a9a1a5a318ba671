use Rattle.queue_texts.proofs.Shapes.{if_none, no_last, both_spelled}
use Rattle.queue_texts.proofs.line_reading.read_parts.Goals as goal

pub returns-in_err-priority-clause-none : goal.returns-in_err-priority-clause-none
returns-in_err-priority-clause-none c = if_none _ _ c.from_residual.ensures (λ x h. c.in_err-priority.ensures.none x.priority h.0 h.1)

pub returns-in_err-value-clause-none : goal.returns-in_err-value-clause-none
returns-in_err-value-clause-none c =
    if_none _ _ c.from_residual-in_err-value.ensures (no_last _ _ _ c.in_ok-priority.ensures.some.1 c.in_err-value.ensures.none)

pub returns-clause-some : goal.returns-clause-some
returns-clause-some c = both_spelled _ _ _ c.in_ok-priority.ensures.some c.in_ok-value.ensures.some
