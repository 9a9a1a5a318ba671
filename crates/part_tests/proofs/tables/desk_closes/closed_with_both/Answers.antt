use Rattle.std.proofs.Common.{◌≡◌, ℕ, zero, suc, ◌+◌, [], ◌∷◌, ◌++◌, refl, ap, sym, ◌∙◌, subst, slice_get}
use Rattle.std.specs.Prelude.{Some}
use Rattle.desk_core.specs.Testimonies.{after_retiring}
use Rattle.desk_core.specs.declared.model.Duty.TheVariants.{Retired}
use Rattle.desk_core.specs.declared.model.PenState.{PenState}
use Rattle.announce_board.specs.Opening.{HasAll}
use Rattle.announce_board.specs.Testimonies.{Testified}
use Rattle.part_tests.proofs.tables.desk_closes.closed_with_both.Goals as goal

two_retired : (a b : PenState) → HasAll 2 (after_retiring a ∷ after_retiring b ∷ []) 0
two_retired a b = record { retired = gone; counted = refl }
  where
    gone : (k : ℕ) (p : PenState) → slice_get (after_retiring a ∷ after_retiring b ∷ []) k ≡ Some p → p.duty ≡ Retired
    gone zero p e = let f : after_retiring a ≡ p = cc in ap (λ (x : PenState). x.duty) (sym f)
    gone (suc zero) p e = let f : after_retiring b ≡ p = cc in ap (λ (x : PenState). x.duty) (sym f)
    gone (suc (suc k)) p e = absurd (cc e)

both_given : (one other both : Testified) (table : _) (a b : PenState) → one ≡ record { table = table; pens = a ∷ []; licences = 0 } → other ≡ record { table = table; pens = b ∷ []; licences = 0 }
    → both ≡ record one { pens = one.pens ++ other.pens; licences = one.licences + other.licences }
    → both ≡ record { table = table; pens = a ∷ b ∷ []; licences = 0 }
both_given one other both table a b e f g =
    g ∙ (ap (λ (t : Testified). record t { pens = t.pens ++ other.pens; licences = t.licences + other.licences }) e
    ∙ ap (λ (t : Testified). record { table = table; pens = a ∷ t.pens; licences = 0 + t.licences }) f)

pub close_all-requires-clause-all : goal.close_all-requires-clause-all
close_all-requires-clause-all g c =
    let both = both_given c.retire-one.result c.retire-other.result c.gather-both.result _ _ _ c.retire-one.ensures.gives c.retire-other.ensures.gives c.gather-both.ensures.both in
    subst (λ n. HasAll n c.gather-both.result.pens c.gather-both.result.licences) (sym c.requires.places)
    (subst (λ (t : Testified). HasAll 2 t.pens t.licences) (sym both) (two_retired c.args.first.state c.args.second.state))

pub returns-clause-first : goal.returns-clause-first
returns-clause-first g c =
    let both = both_given c.retire-one.result c.retire-other.result c.gather-both.result _ _ _ c.retire-one.ensures.gives c.retire-other.ensures.gives c.gather-both.ensures.both in
    c.close_all.ensures.knows 0 (after_retiring c.args.first.state) (ap (λ (t : Testified). slice_get t.pens 0) both)

pub returns-clause-second : goal.returns-clause-second
returns-clause-second g c =
    let both = both_given c.retire-one.result c.retire-other.result c.gather-both.result _ _ _ c.retire-one.ensures.gives c.retire-other.ensures.gives c.gather-both.ensures.both in
    c.close_all.ensures.knows 1 (after_retiring c.args.second.state) (ap (λ (t : Testified). slice_get t.pens 1) both)
