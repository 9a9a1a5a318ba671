use Rattle.std.proofs.Common.{◌∙◌, ◌++◌, List, drop, length, length-append, ap, sym}
use Rattle.pq_types.specs.Asked.{Line}
use Rattle.pq_book.specs.Pages.{Pages, turned}
use Rattle.pq_book.proofs.Rings.{begins_first, straight_ring}
use Rattle.pq_book.proofs.pages.Journal.kept.Goals as goal

pub returns-clause-lines : goal.returns-clause-lines
returns-clause-lines g c =
    let at = c.self.inside.oldest in
    ap (λ ls. ls ++ c.split_at.result.0.now) c.split_at.ensures.back
    ∙ ap (λ ls. drop at c.deref.result.now ++ ls) c.split_at.ensures.front
    ∙ ap (turned at) c.deref.ensures.value
    ∙ ap (λ (j : Pages). j.kept) c.self.view_is

pub returns-clause-counted : goal.returns-clause-counted
returns-clause-counted g c = sym (length-append {A = Line} c.split_at.result.1.now c.split_at.result.0.now) ∙ ap (λ (ls : List Line). length ls) (returns-clause-lines g c)

pub returns-clause-straight : goal.returns-clause-straight
returns-clause-straight g c none =
    let j = c.self.inside in
    let first = begins_first j.oldest j.forgotten.lines c.self.invariant.straight (ap (λ (k : Pages). k.forgotten) c.self.view_is ∙ none) in
    c.split_at.ensures.back ∙ ap (drop j.oldest) c.deref.ensures.value ∙ straight_ring j.page.items j.oldest first ∙ ap (λ (k : Pages). k.kept) c.self.view_is
