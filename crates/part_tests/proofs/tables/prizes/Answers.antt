use Rattle.std.proofs.Common.{rules, ◌≡◌, ℕ, zero, suc, List, [], ◌∷◌, ◌++◌, ◌⊎◌, inl, inr, length, slice_get, Some, refl, ap, sym, ◌∙◌}
use Rattle.part_tests.specs.declared.tables.Prize.{Prize}
use Rattle.part_tests.proofs.tables.prizes.Goals as goal

at_push : (l : List Prize) (a b : Prize) (p : ℕ) → slice_get (l ++ a ∷ []) p ≡ Some b → (slice_get l p ≡ Some b) ⊎ ((p ≡ length l) × (a ≡ b))
at_push [] a b zero e = inr (refl, cc)
at_push [] a b (suc p) e = cc
at_push (x ∷ xs) a b zero e = inl e
at_push (x ∷ xs) a b (suc p) e = elim (at_push xs a b p e) [ inl t ↦ inl t | inr t ↦ inr (ap suc t.0, t.1) ]

pub loop-place-preserved : goal.loop-place-preserved
loop-place-preserved c = record {
  count = search rules;
  each =
      λ p x e. elim (at_push c.loop-place.prizes.items (record { 0 = c.loop-place.place }) x p
      (ap (λ l. slice_get l p) (sym c.in_ok-push.ensures.items) ∙ e)) [
        | inl old ↦ c.loop-place.invariant.each p x old
        | inr new ↦ ap (λ (y : Prize). y.0) (sym new.1) ∙ (sym c.loop-place.invariant.count ∙ sym new.0)
      ];
}
