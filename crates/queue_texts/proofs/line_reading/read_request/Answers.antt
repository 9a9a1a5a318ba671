use Rattle.queue_texts.proofs.Shapes.{if_none, no_pushed_item, item_pushed, no_request}
use Rattle.queue_texts.proofs.line_reading.read_request.Goals as goal

pub returns-in_err-parts-clause-none : goal.returns-in_err-parts-clause-none
returns-in_err-parts-clause-none c = if_none _ _ c.from_residual.ensures (no_pushed_item _ _ c.in-Some.ensures.some c.in_err-parts.ensures.none)

pub returns-in-Some-clause-some : goal.returns-in-Some-clause-some
returns-in-Some-clause-some c = item_pushed _ _ _ _ c.in-Some.ensures.some c.in_ok-parts.ensures.some

pub returns-in_err-kind-clause-none : goal.returns-in_err-kind-clause-none
returns-in_err-kind-clause-none c =
    if_none _ _ c.from_residual-in_err-kind.ensures (no_request _ c.in_default.ensures.none c.in_err-kind.ensures.none)
