use Rattle.line_script.proofs.CutLines.{return_dropped, return_absent, empty_still}
use Rattle.line_script.proofs.lines.without_return.Goals as goal

pub returns-in_default : goal.returns-in_default
returns-in_default c = empty_still _ c.in_default.ensures.cases

pub returns-then-last-eq-CARRIAGE_RETURN : goal.returns-then-last-eq-CARRIAGE_RETURN
returns-then-last-eq-CARRIAGE_RETURN c = return_dropped _ _ _ c.in-Some.ensures.cases.0 c.if-last-eq-CARRIAGE_RETURN.true

pub returns-else-last-eq-CARRIAGE_RETURN : goal.returns-else-last-eq-CARRIAGE_RETURN
returns-else-last-eq-CARRIAGE_RETURN c = return_absent _ _ _ c.in-Some.ensures.cases.0 c.if-last-eq-CARRIAGE_RETURN.false
