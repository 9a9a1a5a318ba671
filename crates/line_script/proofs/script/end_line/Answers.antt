use Rattle.std.proofs.Common.{◌≤◌, length, sym, subst}
use Rattle.line_script.proofs.Pieces.{feed_stops, feed_goes}
use Rattle.line_script.proofs.script.end_line.Goals as goal

pub returns-in-Err-clause-err : goal.returns-in-Err-clause-err
returns-in-Err-clause-err g c start before text rest read =
    let short = subst (λ line. length line ≤ g.P.Player.kind.longest) (sym c.as_slice.ensures.value) read.short in
    feed_stops g.P.Player.kind start before text rest _ _ _ _ _ _ c.as_slice.ensures.value
    c.saturating_add-number.ensures read (c.in-Err.ensures.err short)

pub returns-clause-ok : goal.returns-clause-ok
returns-clause-ok g c start before text read =
    let short = subst (λ line. length line ≤ g.P.Player.kind.longest) (sym c.as_slice.ensures.value) read.short in
    feed_goes g.P.Player.kind start before text _ _ _ _ _ c.as_slice.ensures.value c.saturating_add-number.ensures c.clear.ensures read
    (c.in_default.ensures.ok short)
