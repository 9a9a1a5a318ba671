use Rattle.std.proofs.Common.{◌++◌}
use Rattle.line_script.proofs.LastLines.{end_stops}
use Rattle.line_script.proofs.script.finish.Goals as goal

pub returns-in-Err-end-clause-err : goal.returns-in-Err-end-clause-err
returns-in-Err-end-clause-err g c start bytes text read =
    let played = c.in_default.ensures.ok start bytes text read in
    (played.0, played.1, end_stops g.P.Player.kind start _ bytes (text ++ played.0) _ played.2 c.in-Err-end.ensures.err)
