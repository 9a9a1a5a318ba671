use Rattle.queue_texts.proofs.Shapes.{if_none, no_told_item, item_told, no_reply}
use Rattle.queue_texts.proofs.line_reading.read_reply.Goals as goal

pub returns-in_err-parts-clause-none : goal.returns-in_err-parts-clause-none
returns-in_err-parts-clause-none c = if_none _ _ c.from_residual.ensures (no_told_item _ _ _ c.in-Some.ensures.some c.in_err-parts.ensures.none)

pub returns-in-Some-clause-some : goal.returns-in-Some-clause-some
returns-in-Some-clause-some c = item_told _ _ _ _ c.in-Some.ensures.some c.in_ok-parts.ensures.some

pub returns-in_err-outcome-clause-none : goal.returns-in_err-outcome-clause-none
returns-in_err-outcome-clause-none c =
    if_none _ _ c.from_residual-in_err-outcome.ensures (no_reply _ c.in_default.ensures.none c.in_err-outcome.ensures.none)
