-- The text of a journal.
use Rattle.std.proofs.Common.{◌≡◌, ◌+◌, ◌<◌, List, [], ◌∷◌, ◌++◌, length, length-append, arith}
use Rattle.std.specs.Prelude.{codes}
use Rattle.pq_types.specs.Asked.{Line}
use Rattle.queue_texts.specs.LineText.{line_text, journal_text}

-- a journal that has a line has a text
pub text_is_some : (journal : List Line) → 0 < length journal → 0 < length (journal_text 1 journal)
text_is_some [] some = some
text_is_some (l ∷ ls) some =
    let whole : length (journal_text 1 (l ∷ ls)) ≡ length (line_text 1 l ++ codes "\n") + length (journal_text (1 + 1) ls) =
    length-append (line_text 1 l ++ codes "\n") (journal_text (1 + 1) ls) in
    let ended : length (line_text 1 l ++ codes "\n") ≡ length (line_text 1 l) + 1 = length-append (line_text 1 l) (codes "\n") in
    omega (arith, whole, ended)
