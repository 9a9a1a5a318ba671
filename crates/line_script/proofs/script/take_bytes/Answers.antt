use Rattle.std.proofs.Common.{[], ◌++◌, take, drop, subst, sym, ◌+◌, None, Some}
use Rattle.line_script.specs.Script.{StopsWith}
use Rattle.line_script.specs.Run.{HasRead}
use Rattle.line_script.proofs.CutLines.{append_nil}
use Rattle.line_script.proofs.Pieces.{extend, unchanged, next_byte, around_byte}
use Rattle.line_script.proofs.script.take_bytes.Goals as goal

pub loop-byte-init : goal.loop-byte-init
loop-byte-init g c start before text read =
    unchanged (λ t. HasRead g.P.Player.kind start (before ++ []) t c.args.run.now) (Some c.args.out.now.items) text
    (subst (λ bytes. HasRead g.P.Player.kind start bytes text c.args.run.now) (sym (append_nil before)) read)

pub loop-byte-preserved : goal.loop-byte-preserved
loop-byte-preserved g c start before text read =
    let so_far = c.loop-byte.invariant start before text read in
    extend (λ t. HasRead g.P.Player.kind start (before ++ take (c.loop-byte.byte-index + 1) c.args.bytes.now) t c.take_byte.new.run)
    (Some c.args.out.now.items) (Some c.loop-byte.out.items) (Some c.take_byte.new.out.items) text so_far.0 so_far.1
    (rw (← next_byte before c.args.bytes.now c.loop-byte.byte-index c.loop-byte-test.true)
    (c.in_default.ensures.ok start (before ++ take c.loop-byte.byte-index c.args.bytes.now) (text ++ so_far.0) so_far.2))

pub returns-in-Err-clause-err : goal.returns-in-Err-clause-err
returns-in-Err-clause-err g c start before text rest read =
    let so_far = c.loop-byte.invariant start before text read in
    extend (λ t. StopsWith g.P.Player.kind start (before ++ (c.args.bytes.now ++ rest)) None t c.in-Err.error)
    (Some c.args.out.now.items) (Some c.loop-byte.out.items) (Some c.take_byte.new.out.items) text so_far.0 so_far.1
    (rw (← around_byte before c.args.bytes.now rest c.loop-byte.byte-index c.loop-byte-test.true)
    (c.in-Err.ensures.err start (before ++ take c.loop-byte.byte-index c.args.bytes.now) (text ++ so_far.0)
    (drop (c.loop-byte.byte-index + 1) c.args.bytes.now ++ rest) so_far.2))
