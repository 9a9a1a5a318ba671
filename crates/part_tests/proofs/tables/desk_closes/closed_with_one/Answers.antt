use Rattle.std.proofs.Common.{◌≡◌, ℕ, zero, suc, ◌+◌, [], ◌∷◌, ◌++◌, refl, ap, sym, ◌∙◌, subst, slice_get}
use Rattle.std.specs.Prelude.{Some}
use Rattle.desk_core.specs.Testimonies.{after_retiring}
use Rattle.desk_core.specs.declared.model.PenState.{PenState}
use Rattle.announce_board.specs.Opening.{HasAll}
use Rattle.announce_board.specs.Testimonies.{Testified}
use Rattle.part_tests.proofs.tables.desk_closes.closed_with_one.Goals as goal

-- the one pen of a list
only_one : (a p : PenState) (k : ℕ) → slice_get (a ∷ []) k ≡ Some p → a ≡ p
only_one a p zero e = cc
only_one a p (suc k) e = absurd (cc e)

one_retired : (a : PenState) → HasAll 2 (after_retiring a ∷ []) 1
one_retired a = record { retired = λ k p e. ap (λ (x : PenState). x.duty) (sym (only_one (after_retiring a) p k e)); counted = refl }

with_licence : (one licence all : Testified) (table : _) (a : PenState) → one ≡ record { table = table; pens = a ∷ []; licences = 0 } → licence ≡ record { table = table; pens = []; licences = 1 }
    → all ≡ record one { pens = one.pens ++ licence.pens; licences = one.licences + licence.licences }
    → all ≡ record { table = table; pens = a ∷ []; licences = 1 }
with_licence one licence all table a e f g =
    g ∙ (ap (λ (t : Testified). record t { pens = t.pens ++ licence.pens; licences = t.licences + licence.licences }) e
    ∙ ap (λ (t : Testified). record { table = table; pens = a ∷ t.pens; licences = 0 + t.licences }) f)

pub close_all-requires-clause-all : goal.close_all-requires-clause-all
close_all-requires-clause-all g c =
    let all = with_licence c.retire-one.result c.args.licence c.gather-all.result _ _ c.retire-one.ensures.gives c.requires.licence c.gather-all.ensures.both in
    subst (λ n. HasAll n c.gather-all.result.pens c.gather-all.result.licences) (sym c.requires.places)
    (subst (λ (t : Testified). HasAll 2 t.pens t.licences) (sym all) (one_retired c.args.pen.state))

pub returns-clause-knows : goal.returns-clause-knows
returns-clause-knows g c =
    let all = with_licence c.retire-one.result c.args.licence c.gather-all.result _ _ c.retire-one.ensures.gives c.requires.licence c.gather-all.ensures.both in
    c.close_all.ensures.knows 0 (after_retiring c.args.pen.state) (ap (λ (t : Testified). slice_get t.pens 0) all)

pub returns-clause-only : goal.returns-clause-only
returns-clause-only g c = λ i l at.
    let all = with_licence c.retire-one.result c.args.licence c.gather-all.result _ _ c.retire-one.ensures.gives c.requires.licence c.gather-all.ensures.both in
    let (k, p, of, here) = c.close_all.ensures.only i l at in
    ap (λ (x : PenState). x.place) (only_one (after_retiring c.args.pen.state) p k (subst (λ (t : Testified). slice_get t.pens k ≡ Some p) all of)) ∙ here
