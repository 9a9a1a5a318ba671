use Rattle.queue_texts.proofs.Shapes.{if_none, both_led}
use Rattle.queue_texts.proofs.line_reading.lead_parts.Goals as goal

pub returns-in_err-priority-clause-none : goal.returns-in_err-priority-clause-none
returns-in_err-priority-clause-none c = if_none _ _ c.from_residual.ensures (λ x rest h. c.in_err-priority.ensures.none x.priority x.value rest h)

pub returns-clause-some : goal.returns-clause-some
returns-clause-some c = both_led _ _ _ c.in_ok-priority.ensures.some
