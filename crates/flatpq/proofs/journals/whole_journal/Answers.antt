use Rattle.std.proofs.Common.{◌≡◌, ◌∙◌, ◌++◌, ap, append-nil, drop, length, rules, sym}
use Rattle.std.proofs.lemmas.List.{nil_from_length}
use Rattle.flatpq.proofs.journals.whole_journal.Goals as goal

pub returns-clause-some : goal.returns-clause-some
returns-clause-some g c =
    let lines = c.lines-lines.result in
    let none : lines.forgotten ≡ 0 = search rules fits 300 in
    let short : length lines.newer.now ≡ 0 = search rules fits 300 in
    sym (append-nil lines.older.now) ∙ ap (λ l. lines.older.now ++ l) (sym (nil_from_length lines.newer.now short)) ∙ c.lines-lines.ensures.last.1
    ∙ ap (λ n. drop n c.args.book.now.journal) none
