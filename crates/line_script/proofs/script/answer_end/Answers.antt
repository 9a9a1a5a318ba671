use Rattle.std.proofs.Common.{None}
use Rattle.line_script.specs.Script.{StopsWith}
use Rattle.line_script.proofs.Between.{failed, succeeded, wrote, part_written, part_of_end}
use Rattle.line_script.proofs.script.answer_end.Goals as goal

pub returns-then-is_err-clause-err : goal.returns-then-is_err-clause-err
returns-then-is_err-clause-err g c start bytes text read =
    part_written g.P.Player.kind start bytes _ _ _ _ text c.requires
    (rw c.as_slice.ensures.value at (failed _ _ c.if-is_err.ensures.value c.write_bytes.ensures.err))
    (part_of_end g.P.Player.kind _ _ c.finish-played.new.run _ _ c.finish-played.ensures.ok c.finish-played.ensures.err start bytes text read)

pub returns-in-Err-clause-err : goal.returns-in-Err-clause-err
returns-in-Err-clause-err g c start bytes text read =
    wrote (λ t. StopsWith g.P.Player.kind start bytes None t c.in-Err.error) _ _ _ _ text c.requires
    (rw c.as_slice.ensures.value at (succeeded _ _ c.if-is_err.ensures.value c.write_bytes.ensures.ok))
    (c.in-Err.ensures.err start bytes text read)
