-- Lockers whose numbers are their places, with one more.
use Rattle.std.proofs.Common.{◌≡◌, ℕ, zero, suc, ◌⊎◌, inl, inr, ⊎_elim, List, [], ◌∷◌, ◌++◌, length, refl, ap, sym, ◌∙◌}
use Rattle.std.specs.Prelude.{slice_get, Some}
use Rattle.readme_examples.specs.declared.lockers.Locker.{Locker}
use Rattle.readme_examples.specs.Lockers.{AreNumbered}

-- of one locker more each is one of those before, or the last
get_snoc : (lockers : List Locker) (last : Locker) (i : ℕ) (x : Locker) → slice_get (lockers ++ last ∷ []) i ≡ Some x
    → (slice_get lockers i ≡ Some x) ⊎ ((i ≡ length lockers) × (last ≡ x))
get_snoc [] last zero x e = inr (refl, cc)
get_snoc [] last (suc i) x e = absurd (cc e)
get_snoc (y ∷ lockers) last zero x e = inl e
get_snoc (y ∷ lockers) last (suc i) x e = ⊎_elim (λ u. inl u) (λ u. inr (ap suc u.0, u.1)) (get_snoc lockers last i x e)

pub numbered_more : (lockers : List Locker) (last : Locker) → AreNumbered lockers → last.number ≡ length lockers → AreNumbered (lockers ++ last ∷ [])
numbered_more lockers last are is place locker e =
    ⊎_elim (λ u. are place locker u) (λ u. ap (λ (l : Locker). l.number) (sym u.1) ∙ (is ∙ sym u.0)) (get_snoc lockers last place locker e)
