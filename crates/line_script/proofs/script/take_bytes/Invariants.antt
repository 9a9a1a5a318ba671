use Rattle.std.proofs.Common.{take, Some}
use Rattle.line_script.specs.Run.{PlaysOn}
use Rattle.line_script.proofs.script.take_bytes.Given as goal

-- the bytes so far are read
abbrev pub invariant-loop-byte : goal.invariant-loop-byte
invariant-loop-byte g l = PlaysOn g.P.Player.kind l.fn.run (take l.byte-index l.bytes) l.run (Some l.fn.out.items) (Some l.out.items)
