use Rattle.std.proofs.Common.{◌≤◌, length, sym, subst, arith}
use Rattle.std.proofs.lemmas.Bool.Decides.{nat_tests}
use Rattle.line_script.proofs.LastLines.{last_goes, last_stops}
use Rattle.line_script.proofs.script.end_last_line.Goals as goal

pub returns-clause-ok : goal.returns-clause-ok
returns-clause-ok g c start bytes text read =
    let short = subst (λ line. length line ≤ g.P.Player.kind.longest) (sym c.as_slice.ensures.value) read.short in
    last_goes g.P.Player.kind start _ bytes text _ _ _ _ c.as_slice.ensures.value
    (grind (arith, nat_tests, c.if-is_empty.ensures)) read (c.in_default.ensures.ok short)

pub returns-in-Err-clause-err : goal.returns-in-Err-clause-err
returns-in-Err-clause-err g c start bytes text read =
    let short = subst (λ line. length line ≤ g.P.Player.kind.longest) (sym c.as_slice.ensures.value) read.short in
    last_stops g.P.Player.kind start bytes text _ _ _ _ _ _ c.as_slice.ensures.value c.saturating_add-number.ensures
    (grind (arith, nat_tests, c.if-is_empty.ensures)) read (c.in-Err.ensures.err short)
