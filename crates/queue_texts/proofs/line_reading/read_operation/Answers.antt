use Rattle.queue_texts.proofs.Shapes.{if_none, no_ticket, removal_said, no_priority, move_said, shut_said, no_operation, request_said}
use Rattle.queue_texts.proofs.line_reading.read_operation.Goals as goal

pub returns-in_err-ticket-clause-none : goal.returns-in_err-ticket-clause-none
returns-in_err-ticket-clause-none c = if_none _ _ c.from_residual.ensures (no_ticket _ _ c.in-Some.ensures.some c.in_err-ticket.ensures.none)

pub returns-in-Some-clause-some : goal.returns-in-Some-clause-some
returns-in-Some-clause-some c = removal_said _ _ _ _ c.in-Some.ensures.some c.in_ok-ticket.ensures.some

pub returns-in_err-ticket-2-clause-none : goal.returns-in_err-ticket-2-clause-none
returns-in_err-ticket-2-clause-none c =
    if_none _ _ c.from_residual-in_err-ticket-2.ensures (no_priority _ _ c.in-Some-moved_text.ensures.some c.in_err-ticket-2.ensures.none)

pub returns-in-Some-moved_text-clause-some : goal.returns-in-Some-moved_text-clause-some
returns-in-Some-moved_text-clause-some c = move_said _ _ _ _ _ c.in-Some-moved_text.ensures.some c.in_ok-ticket-2.ensures.some

pub returns-in-Some-shut_text-clause-some : goal.returns-in-Some-shut_text-clause-some
returns-in-Some-shut_text-clause-some c = shut_said _ _ c.in-Some-shut_text.ensures.some

pub returns-in_err-kind-clause-none : goal.returns-in_err-kind-clause-none
returns-in_err-kind-clause-none c =
    if_none _ _ c.from_residual-in_err-kind.ensures
    (no_operation _ c.in_default.ensures.none c.in_default-moved_text.ensures.none c.in_default-shut_text.ensures.none c.in_err-kind.ensures.none)

pub returns-clause-some : goal.returns-clause-some
returns-clause-some c = request_said _ _ _ _ c.in_ok-kind.ensures.some
