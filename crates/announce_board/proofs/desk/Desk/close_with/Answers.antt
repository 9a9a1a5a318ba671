use Rattle.std.proofs.Common.{◌≡◌, true, false, ap, subst, sym, ◌∙◌}
use Rattle.std.proofs.lemmas.Result.{IfOk-weaker, IfErr-weaker}
use Rattle.desk_core.specs.Knows.{Knows}
use Rattle.announce_board.specs.Slots.{MeetsTerms}
use Rattle.announce_board.specs.Tokens.{AtDesk, Running}
use Rattle.announce_board.proofs.Ends.{closes_with, closes_held, closes_alone, home_as, held_as}
use Rattle.announce_board.proofs.desk.Desk.close_with.Goals as goal

pub returns-clause-ok : goal.returns-clause-ok
returns-clause-ok g c =
    IfOk-weaker c.book_of.result _ _
    (λ book h. home_as _ _ _ _ _ _ book (sym c.self.invariant.room_is ∙ ap (λ (d : Running). d.room) c.self.view_is) (sym c.self.invariant.terms_are ∙ ap (λ (d : Running). d.terms) c.self.view_is) (ap (λ (p : AtDesk). p.state) c.pen.view_is) (closes_with _ _ c.law_opening_and_end.ensures.ends _ _ _ _ c.pen.inside.seat.me _ _ _ _ c.pen.invariant.at.is c.close_with-closed.ensures.values.2 c.word-lock.ensures c.take-slot.ensures.value book h).0)
    c.book_of.ensures.ok

pub returns-clause-err : goal.returns-clause-err
returns-clause-err g c =
    IfErr-weaker c.book_of.result _ _
    (λ _ h. held_as _ _ _ _ _ _ (sym c.self.invariant.room_is ∙ ap (λ (d : Running). d.room) c.self.view_is) (sym c.self.invariant.terms_are ∙ ap (λ (d : Running). d.terms) c.self.view_is) (ap (λ (p : AtDesk). p.state) c.pen.view_is) (closes_held _ _ c.law_opening_and_end.ensures.ends _ _ _ _ c.pen.inside.seat.me _ _ _ c.pen.invariant.at.is c.close_with-closed.ensures.values.2 c.word-lock.ensures h))
    c.book_of.ensures.err

pub returns-clause-knows : goal.returns-clause-knows
returns-clause-knows g c =
    IfOk-weaker c.book_of.result _ _
    (λ book h. subst (λ (p : AtDesk). Knows p.state.room p.state book.journal) c.pen.view_is
    (closes_with _ _ c.law_opening_and_end.ensures.ends _ _ _ _ c.pen.inside.seat.me _ _ _ _ c.pen.invariant.at.is c.close_with-closed.ensures.values.2 c.word-lock.ensures c.take-slot.ensures.value book h).1)
    c.book_of.ensures.ok

pub returns-clause-led_not : goal.returns-clause-led_not
returns-clause-led_not g c =
    IfOk-weaker c.book_of.result _ _
    (λ book h. subst (λ (p : AtDesk). p.state.leading ≡ false) c.pen.view_is
    (closes_with _ _ c.law_opening_and_end.ensures.ends _ _ _ _ c.pen.inside.seat.me _ _ _ _ c.pen.invariant.at.is c.close_with-closed.ensures.values.2 c.word-lock.ensures c.take-slot.ensures.value book h).2)
    c.book_of.ensures.ok

pub returns-clause-alone : goal.returns-clause-alone
returns-clause-alone g c =
    IfErr-weaker c.book_of.result _ _
    (λ _ h one. subst (λ (p : AtDesk). p.state.leading ≡ true) c.pen.view_is
    (closes_alone _ _ c.law_opening_and_end.ensures.ends _ _ _ _ c.pen.inside.seat.me _ _ _ c.pen.invariant.at.is c.close_with-closed.ensures.values.2 c.word-lock.ensures h
    (sym c.self.invariant.places_are ∙ (ap (λ (d : Running). d.places) c.self.view_is ∙ one))))
    c.book_of.ensures.err

pub returns-clause-terms : goal.returns-clause-terms
returns-clause-terms g c =
    IfOk-weaker c.book_of.result _ _
    (λ book h. subst (λ u. MeetsTerms u book) (sym c.self.invariant.terms_are ∙ ap (λ (d : Running). d.terms) c.self.view_is) (closes_with _ _ c.law_opening_and_end.ensures.ends _ _ _ _ c.pen.inside.seat.me _ _ _ _ c.pen.invariant.at.is c.close_with-closed.ensures.values.2 c.word-lock.ensures c.take-slot.ensures.value book h).3)
    c.book_of.ensures.ok
