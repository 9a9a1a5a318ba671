-- The pens that a dealer has given out, with one more.
use Rattle.std.proofs.Common.{◌≡◌, ℕ, zero, suc, ◌⊎◌, inl, inr, ⊎_elim, List, [], ◌∷◌, ◌++◌, length, refl, ap, sym, ◌∙◌}
use Rattle.std.specs.Prelude.{slice_get, Some}
use Rattle.atomic_table.specs.Seated.{TableId}
use Rattle.announce_board.specs.Opening.{ArePens, pen_of_place}
use Rattle.announce_board.specs.Tokens.{AtDesk}

-- of one pen more each is one of those before, or the last
get_snoc : (pens : List AtDesk) (pen : AtDesk) (i : ℕ) (x : AtDesk) → slice_get (pens ++ pen ∷ []) i ≡ Some x
    → (slice_get pens i ≡ Some x) ⊎ ((i ≡ length pens) × (pen ≡ x))
get_snoc [] pen zero x e = inr (refl, cc)
get_snoc [] pen (suc i) x e = absurd (cc e)
get_snoc (y ∷ pens) pen zero x e = inl e
get_snoc (y ∷ pens) pen (suc i) x e = ⊎_elim (λ u. inl u) (λ u. inr (ap suc u.0, u.1)) (get_snoc pens pen i x e)

pub pens_more : (table : TableId) (room place : ℕ) (pens : List AtDesk) (pen : AtDesk) → ArePens table room pens → length pens ≡ place
    → pen ≡ pen_of_place table room place → ArePens table room (pens ++ pen ∷ [])
pens_more table room place pens pen are count new i x e =
    ⊎_elim
    (λ u. are i x u)
    (λ u. sym u.1 ∙ (new ∙ ap (pen_of_place table room) (sym (u.0 ∙ count))))
    (get_snoc pens pen i x e)
