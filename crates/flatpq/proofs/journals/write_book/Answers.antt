use Rattle.std.proofs.Common.{[], refl}
use Rattle.std.proofs.KnownBytes.{Appends-nil}
use Rattle.queue_texts.specs.LineText.{journal_text}
use Rattle.flatpq.proofs.JournalTexts.{text_is_some}
use Rattle.flatpq.proofs.journals.write_book.Goals as goal

pub returns-in-None-clause-err : goal.returns-in-None-clause-err
returns-in-None-clause-err g c =
    ([], journal_text 1 c.args.book.now.journal, refl, text_is_some c.args.book.now.journal c.in-None.ensures.none, Appends-nil (g.W.Write.contents c.args.writer.now))
