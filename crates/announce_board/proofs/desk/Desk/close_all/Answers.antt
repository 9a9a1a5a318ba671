use Rattle.std.proofs.Common.{ap, refl, subst, sym, ◌∙◌}
use Rattle.std.specs.Prelude.{IsSome}
use Rattle.pq_book.specs.Book.{Volume}
use Rattle.announce_board.specs.Slots.{MeetsTerms, book_of}
use Rattle.announce_board.specs.Tokens.{Running}
use Rattle.announce_board.specs.Testimonies.{Testified}
use Rattle.announce_board.specs.Opening.{IsHomeWithAll, AllKnow, LinesAreOfThese}
use Rattle.announce_board.proofs.Ends.{closes_all_as, book_got}
use Rattle.announce_board.proofs.TestimonySteps.{testimony_is}
use Rattle.announce_board.proofs.desk.Desk.close_all.Goals as goal

pub unwrap-requires : goal.unwrap-requires
unwrap-requires g c =
    let t = closes_all_as _ _ c.law_opening_and_end.ensures.ends _ _ _ _ _ _ _ c.into_seat.result.me.0 c.args.testimony.pens _ _ c.take-slot.result c.args.testimony.licences
    (testimony_is c.testimony.inside.badge.views _ _ _ c.testimony.invariant c.into_seat.ensures.2 (ap (λ (x : Testified). x.pens) c.testimony.view_is) (ap (λ (x : Testified). x.licences) c.testimony.view_is))
    c.close_with-closed.ensures.values.2 c.take-slot.ensures.value (sym c.self.invariant.room_is ∙ ap (λ (d : Running). d.room) c.self.view_is)
    (sym c.self.invariant.terms_are ∙ ap (λ (d : Running). d.terms) c.self.view_is)
    (sym c.self.invariant.places_are ∙ ap (λ (d : Running). d.places) c.self.view_is) c.requires.all in
    subst IsSome (sym (c.into_inner.ensures ∙ ap book_of t.1)) refl

pub returns-clause-home : goal.returns-clause-home
returns-clause-home g c =
    let t = closes_all_as _ _ c.law_opening_and_end.ensures.ends _ _ _ _ _ _ _ c.into_seat.result.me.0 c.args.testimony.pens _ _ c.take-slot.result c.args.testimony.licences
    (testimony_is c.testimony.inside.badge.views _ _ _ c.testimony.invariant c.into_seat.ensures.2 (ap (λ (x : Testified). x.pens) c.testimony.view_is) (ap (λ (x : Testified). x.licences) c.testimony.view_is))
    c.close_with-closed.ensures.values.2 c.take-slot.ensures.value (sym c.self.invariant.room_is ∙ ap (λ (d : Running). d.room) c.self.view_is)
    (sym c.self.invariant.terms_are ∙ ap (λ (d : Running). d.terms) c.self.view_is)
    (sym c.self.invariant.places_are ∙ ap (λ (d : Running). d.places) c.self.view_is) c.requires.all in
    subst (IsHomeWithAll c.args.self.room c.args.self.terms c.args.testimony.pens) (book_got t.0 c.unwrap.result _ t.1 (sym c.unwrap.ensures ∙ c.into_inner.ensures) ∙ sym c.into_book.ensures) t.2.home

pub returns-clause-knows : goal.returns-clause-knows
returns-clause-knows g c =
    let t = closes_all_as _ _ c.law_opening_and_end.ensures.ends _ _ _ _ _ _ _ c.into_seat.result.me.0 c.args.testimony.pens _ _ c.take-slot.result c.args.testimony.licences
    (testimony_is c.testimony.inside.badge.views _ _ _ c.testimony.invariant c.into_seat.ensures.2 (ap (λ (x : Testified). x.pens) c.testimony.view_is) (ap (λ (x : Testified). x.licences) c.testimony.view_is))
    c.close_with-closed.ensures.values.2 c.take-slot.ensures.value (sym c.self.invariant.room_is ∙ ap (λ (d : Running). d.room) c.self.view_is)
    (sym c.self.invariant.terms_are ∙ ap (λ (d : Running). d.terms) c.self.view_is)
    (sym c.self.invariant.places_are ∙ ap (λ (d : Running). d.places) c.self.view_is) c.requires.all in
    subst (AllKnow c.args.testimony.pens) (book_got t.0 c.unwrap.result _ t.1 (sym c.unwrap.ensures ∙ c.into_inner.ensures) ∙ sym c.into_book.ensures) t.2.knows

pub returns-clause-only : goal.returns-clause-only
returns-clause-only g c =
    let t = closes_all_as _ _ c.law_opening_and_end.ensures.ends _ _ _ _ _ _ _ c.into_seat.result.me.0 c.args.testimony.pens _ _ c.take-slot.result c.args.testimony.licences
    (testimony_is c.testimony.inside.badge.views _ _ _ c.testimony.invariant c.into_seat.ensures.2 (ap (λ (x : Testified). x.pens) c.testimony.view_is) (ap (λ (x : Testified). x.licences) c.testimony.view_is))
    c.close_with-closed.ensures.values.2 c.take-slot.ensures.value (sym c.self.invariant.room_is ∙ ap (λ (d : Running). d.room) c.self.view_is)
    (sym c.self.invariant.terms_are ∙ ap (λ (d : Running). d.terms) c.self.view_is)
    (sym c.self.invariant.places_are ∙ ap (λ (d : Running). d.places) c.self.view_is) c.requires.all in
    subst (λ (b : Volume). LinesAreOfThese c.args.testimony.pens b.journal) (book_got t.0 c.unwrap.result _ t.1 (sym c.unwrap.ensures ∙ c.into_inner.ensures) ∙ sym c.into_book.ensures) t.2.only

pub returns-clause-placed : goal.returns-clause-placed
returns-clause-placed g c =
    let t = closes_all_as _ _ c.law_opening_and_end.ensures.ends _ _ _ _ _ _ _ c.into_seat.result.me.0 c.args.testimony.pens _ _ c.take-slot.result c.args.testimony.licences
    (testimony_is c.testimony.inside.badge.views _ _ _ c.testimony.invariant c.into_seat.ensures.2 (ap (λ (x : Testified). x.pens) c.testimony.view_is) (ap (λ (x : Testified). x.licences) c.testimony.view_is))
    c.close_with-closed.ensures.values.2 c.take-slot.ensures.value (sym c.self.invariant.room_is ∙ ap (λ (d : Running). d.room) c.self.view_is)
    (sym c.self.invariant.terms_are ∙ ap (λ (d : Running). d.terms) c.self.view_is)
    (sym c.self.invariant.places_are ∙ ap (λ (d : Running). d.places) c.self.view_is) c.requires.all in
    t.2.placed

pub returns-clause-terms : goal.returns-clause-terms
returns-clause-terms g c =
    let t = closes_all_as _ _ c.law_opening_and_end.ensures.ends _ _ _ _ _ _ _ c.into_seat.result.me.0 c.args.testimony.pens _ _ c.take-slot.result c.args.testimony.licences
    (testimony_is c.testimony.inside.badge.views _ _ _ c.testimony.invariant c.into_seat.ensures.2 (ap (λ (x : Testified). x.pens) c.testimony.view_is) (ap (λ (x : Testified). x.licences) c.testimony.view_is))
    c.close_with-closed.ensures.values.2 c.take-slot.ensures.value (sym c.self.invariant.room_is ∙ ap (λ (d : Running). d.room) c.self.view_is)
    (sym c.self.invariant.terms_are ∙ ap (λ (d : Running). d.terms) c.self.view_is)
    (sym c.self.invariant.places_are ∙ ap (λ (d : Running). d.places) c.self.view_is) c.requires.all in
    subst (MeetsTerms c.args.self.terms) (book_got t.0 c.unwrap.result _ t.1 (sym c.unwrap.ensures ∙ c.into_inner.ensures) ∙ sym c.into_book.ensures) t.2.bounded
