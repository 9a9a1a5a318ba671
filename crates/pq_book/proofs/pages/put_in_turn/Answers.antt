use Rattle.std.proofs.Common.{arith, ap, sym, set, ◌∙◌, ◌+◌, ◌∷◌}
use Rattle.pq_book.specs.Pages.{turned}
use Rattle.pq_book.proofs.Rings.{turns_on, turns_over}
use Rattle.pq_book.proofs.pages.put_in_turn.Goals as goal

pub returns-then-oldest-len-clause-lines : goal.returns-then-oldest-len-clause-lines
returns-then-oldest-len-clause-lines g c = turns_on c.args.page.now.items c.args.oldest c.args.line _ (omega (arith, c.if-oldest-len.true, c.len.ensures)) ∙ ap (λ x. x ∷ turned (c.args.oldest + 1) (set c.args.page.now.items c.args.oldest c.args.line)) (sym c.index-first.ensures)

pub returns-clause-lines : goal.returns-clause-lines
returns-clause-lines g c = turns_over c.args.page.now.items c.args.oldest c.args.line _ (omega (arith, c.requires)) (omega (arith, c.if-oldest-len.false, c.len.ensures)) ∙ ap (λ x. x ∷ turned 0 (set c.args.page.now.items c.args.oldest c.args.line)) (sym c.index-first.ensures)
