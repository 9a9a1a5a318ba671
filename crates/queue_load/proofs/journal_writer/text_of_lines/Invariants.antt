use Rattle.std.proofs.Common.{◌≡◌, ◌+◌, take}
use Rattle.queue_texts.specs.LineText.{journal_text}
use Rattle.queue_load.proofs.journal_writer.text_of_lines.Given as goal

abbrev pub invariant-loop-line : goal.invariant-loop-line
invariant-loop-line g l = (l.next ≡ l.fn.number + l.line-index) × (l.text.items ≡ journal_text l.fn.number (take l.line-index l.lines))
