use Rattle.std.proofs.Common.{ap, subst, sym, ◌∙◌}
use Rattle.std.proofs.lemmas.Result.{IfOk-weaker}
use Rattle.announce_board.specs.Slots.{MeetsTerms}
use Rattle.announce_board.specs.Tokens.{Running}
use Rattle.announce_board.proofs.Ends.{closes, book_as}
use Rattle.announce_board.proofs.desk.Desk.close.Goals as goal

pub returns-clause-ok : goal.returns-clause-ok
returns-clause-ok g c =
    IfOk-weaker c.book_of.result _ _
    (λ book h. book_as _ _ _ _ book (sym c.self.invariant.room_is ∙ ap (λ (d : Running). d.room) c.self.view_is) (sym c.self.invariant.terms_are ∙ ap (λ (d : Running). d.terms) c.self.view_is)
    (closes _ _ c.law_opening_and_end.ensures.ends _ _ _ _ _ _ _ c.close-closed.ensures.values.2 c.word-lock.ensures c.take-slot.ensures.value book h).0)
    c.book_of.ensures.ok

pub returns-clause-terms : goal.returns-clause-terms
returns-clause-terms g c =
    IfOk-weaker c.book_of.result _ _
    (λ book h. subst (λ u. MeetsTerms u book) (sym c.self.invariant.terms_are ∙ ap (λ (d : Running). d.terms) c.self.view_is) (closes _ _ c.law_opening_and_end.ensures.ends _ _ _ _ _ _ _ c.close-closed.ensures.values.2 c.word-lock.ensures c.take-slot.ensures.value book h).1)
    c.book_of.ensures.ok
