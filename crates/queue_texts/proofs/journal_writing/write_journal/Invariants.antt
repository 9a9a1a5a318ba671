use Rattle.std.proofs.Common.{◌≡◌, take}
use Rattle.queue_texts.specs.LineText.{journal_text}
use Rattle.queue_texts.proofs.Writing.{IsPaged}
use Rattle.queue_texts.proofs.journal_writing.write_journal.Given as goal

-- the text of the lines so far is with the writer, but for the page
abbrev pub invariant-loop-line : goal.invariant-loop-line
invariant-loop-line g l =
    (l.number ≡ l.line-index) × IsPaged (g.W.Write.contents l.fn.writer) (g.W.Write.contents l.writer) l.page.items
    (journal_text 1 (take l.line-index l.lines))
