use Rattle.std.proofs.Common.{take}
use Rattle.queue_texts.proofs.Numerals.{ReadSoFar}
use Rattle.queue_texts.proofs.number.read_number.Given as goal

-- the text so far is digits, and the value is theirs
abbrev pub invariant-loop-byte : goal.invariant-loop-byte
invariant-loop-byte l = ReadSoFar (take l.byte-index l.text) l.value
