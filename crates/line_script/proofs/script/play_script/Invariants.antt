use Rattle.std.proofs.Common.{◌≡◌, ℕ, List, [], Some, length}
use Rattle.line_script.specs.declared.lines.TheConstants.{BUFFER}
use Rattle.line_script.proofs.Between.{Between}
use Rattle.line_script.proofs.script.play_script.Given as goal

-- nothing is left to write, there is room to read, and where the bytes are known, the run stands
-- between two reads
abbrev pub invariant-loop-turn : goal.invariant-loop-turn
invariant-loop-turn g l =
    (l.out.items ≡ []) × (length l.buffer ≡ BUFFER)
    × ((input : List ℕ) → g.R.Read.remaining l.fn.reader ≡ Some input
    → Between g.P.Player.kind l.fn.player input (g.R.Read.remaining l.reader) (g.W.Write.contents l.fn.writer) (g.W.Write.contents l.writer) l.run)
