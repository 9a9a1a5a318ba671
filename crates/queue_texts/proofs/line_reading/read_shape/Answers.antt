use Rattle.queue_texts.proofs.Shapes.{if_none, no_line_asked, no_line_told, line_spelled}
use Rattle.queue_texts.proofs.line_reading.read_shape.Goals as goal

pub returns-in_err-number-clause-none : goal.returns-in_err-number-clause-none
returns-in_err-number-clause-none c =
    if_none _ _ c.from_residual.ensures (λ n l h. c.in_err-number.ensures.none n l.place l.serial h.from_operation h.head)

pub returns-in_err-named-clause-none : goal.returns-in_err-named-clause-none
returns-in_err-named-clause-none c =
    let led = c.in_ok-number.ensures.some in
    if_none _ _ c.from_residual-in_err-named.ensures (no_line_asked _ _ (led.0, led.1, led.2, led.3) c.in_err-named.ensures.none)

pub returns-in_err-outcome-clause-none : goal.returns-in_err-outcome-clause-none
returns-in_err-outcome-clause-none c =
    let led = c.in_ok-number.ensures.some in
    if_none _ _ c.from_residual-in_err-outcome.ensures
    (no_line_told _ _ _ _ (led.0, led.1, led.2, led.3) c.in_ok-named.ensures.some c.in_err-outcome.ensures.none)

pub returns-clause-some : goal.returns-clause-some
returns-clause-some c =
    let led = c.in_ok-number.ensures.some in
    line_spelled _ _ _ _ led.0 led.1 led.2 led.3 led.4 led.5 led.6 c.in_ok-named.ensures.some c.in_ok-outcome.ensures.some
