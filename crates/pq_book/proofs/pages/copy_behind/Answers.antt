use Rattle.std.proofs.Common.{ap, ◌∙◌, ◌++◌, drop}
use Rattle.std.proofs.lemmas.List.{append_assoc}
use Rattle.pq_book.proofs.Rings.{behind_both}
use Rattle.pq_book.proofs.pages.copy_behind.Goals as goal

pub returns-clause-ok : goal.returns-clause-ok
returns-clause-ok g c =
    let before = c.args.archive.now.items in
    let newer = c.split_at-2.result.1.now in
    c.copy_reserved-2.ensures.items
    ∙ ap (λ xs. xs ++ newer) c.copy_reserved.ensures.items
    ∙ ap (λ xs. xs ++ c.split_at.result.1.now ++ newer) c.reserve.ensures.items
    ∙ append_assoc before c.split_at.result.1.now newer
    ∙ ap (λ xs. before ++ (xs ++ newer)) c.split_at.ensures.back
    ∙ ap (λ xs. before ++ (drop c.min-passed.result c.args.older.now ++ xs)) c.split_at-2.ensures.back
    ∙ ap (λ xs. before ++ xs) (behind_both c.args.older.now c.args.newer.now c.args.skipped c.min-passed.result c.min-passed.ensures)
