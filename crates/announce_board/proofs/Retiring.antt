-- What retired pens are, they stay, while others take steps and testimonies are put together.
use Rattle.std.proofs.Common.{◌≡◌, ◌≢◌, ℕ, zero, suc, ◌+◌, ◌⊎◌, inl, inr, ⊎_elim, false, List, [], ◌∷◌, ◌++◌, set, ap, sym, ◌∙◌, subst}
use Rattle.std.specs.Prelude.{Some, None, slice_get}
use mathlib.Core.Option.{some, some-injective}
use lib.ListN.{get_elem?}
use Rattle.atomic_table.proofs.Lists.{at_set, at_snoc, at_longer, set_else}
use Rattle.desk_core.specs.Desk.{Has}
use Rattle.desk_core.specs.Testimonies.{RetiredStay}
use Rattle.desk_core.specs.declared.model.Duty.TheVariants.{Retired}
use Rattle.desk_core.specs.declared.model.PenState.{PenState}
use Rattle.desk_core.specs.declared.model.View.{View}
use Rattle.desk_core.specs.declared.model.View.TheVariants.{Holder, Testimony}

-- the pen stands at some seat, and does not lead
abbrev pub Rests : List View → PenState → Type 0
Rests views p = ((seat : ℕ) × Has views seat p) × (p.leading ≡ false)

-- each retired pen of this view, where it is a testimony, stands at some seat
abbrev pub AllRest : List View → View → Type 0
AllRest views w = (pens : List PenState) (n k : ℕ) (p : PenState) → w ≡ Testimony pens n → slice_get pens k ≡ Some p → p.duty ≡ Retired
    → Rests views p

-- the view is that of no retired pen
abbrev pub NotRetired : View → Type 0
NotRetired v = (p : PenState) → v ≡ Holder p → p.duty ≡ Retired → ⊥

-- a retired pen stays at its seat where another view comes to the seat of no retired pen
pub rests_set : (views : List View) (id : ℕ) (v w : View) (p : PenState) → get_elem? views id ≡ some v → NotRetired v → p.duty ≡ Retired
    → Rests views p → Rests (set views id w) p
rests_set views id v w p at old gone ((seat, has), idle) =
    let ne : seat ≢ id = λ e.
    (let f : some (Holder p) ≡ some v = sym has ∙ (ap (get_elem? views) e ∙ at) in
    old p (sym (some-injective (Holder p) v f)) gone) in
    ((seat, set_else views id seat w ne ∙ has), idle)

-- another view comes to a seat that is none of a retired pen
pub stays_set : (views : List View) (id : ℕ) (v w : View) → RetiredStay views → get_elem? views id ≡ some v → NotRetired v → AllRest views w
    → RetiredStay (set views id w)
stays_set views id v w stay at old new i pens n k p there of gone =
    rests_set views id v w p at old gone
    (⊎_elim (λ u. new pens n k p u.1 of gone) (λ u. stay i pens n k p u.1 of gone) (at_set views id i w (Testimony pens n) there))

-- a view comes behind the others
pub stays_more : (views : List View) (w : View) → RetiredStay views → AllRest views w → RetiredStay (views ++ w ∷ [])
stays_more views w stay new i pens n k p there of gone =
    let ((seat, has), idle) = ⊎_elim (λ u. stay i pens n k p u of gone) (λ u. new pens n k p u of gone) (at_snoc views w (Testimony pens n) i there) in
    ((seat, at_longer views (w ∷ []) seat (Holder p) has), idle)

-- a pen of two testimonies that are put together is one of the one or of the other
pens_cases : (xs ys : List PenState) (k : ℕ) (p : PenState) → slice_get (xs ++ ys) k ≡ Some p
    → ((i : ℕ) × (slice_get xs i ≡ Some p)) ⊎ ((j : ℕ) × (slice_get ys j ≡ Some p))
pens_cases [] ys k p e = inr (k, e)
pens_cases (x ∷ xs) ys zero p e = inl (zero, e)
pens_cases (x ∷ xs) ys (suc k) p e = ⊎_elim (λ u. inl (suc u.0, u.1)) (λ u. inr u) (pens_cases xs ys k p e)

-- and the other way round
pub pens_first : (xs ys : List PenState) (k : ℕ) (p : PenState) → slice_get xs k ≡ Some p → slice_get (xs ++ ys) k ≡ Some p
pens_first [] ys k p e = absurd (cc e)
pens_first (x ∷ xs) ys zero p e = e
pens_first (x ∷ xs) ys (suc k) p e = pens_first xs ys k p e

pub pens_second : (xs ys : List PenState) (k : ℕ) (p : PenState) → slice_get ys k ≡ Some p → (i : ℕ) × (slice_get (xs ++ ys) i ≡ Some p)
pens_second [] ys k p e = (k, e)
pens_second (x ∷ xs) ys k p e = let (i, f) = pens_second xs ys k p e in (suc i, f)

pub both_rest : (views : List View) (i j : ℕ) (pens more : List PenState) (n m : ℕ) → RetiredStay views → get_elem? views i ≡ some (Testimony pens n)
    → get_elem? views j ≡ some (Testimony more m) → AllRest views (Testimony (pens ++ more) (n + m))
both_rest views i j pens more n m stay at there all l k p e of gone =
    let f : Testimony (pens ++ more) (n + m) ≡ Testimony all l = e in
    let g : pens ++ more ≡ all = cc in
    ⊎_elim
    (λ u. stay i pens n u.0 p at u.1 gone)
    (λ u. stay j more m u.0 p there u.1 gone)
    (pens_cases pens more k p (subst (λ (l : List PenState). slice_get l k ≡ Some p) (sym g) of))

-- a testimony with no pen
pub none_rest : (views : List View) (m : ℕ) → AllRest views (Testimony [] m)
none_rest views m pens n k p e of gone =
    let f : Testimony [] m ≡ Testimony pens n = e in
    let g : [] ≡ pens = cc in
    absurd (let none : None ≡ Some p = subst (λ (l : List PenState). slice_get l k ≡ Some p) (sym g) of in cc)

-- the one pen of a testimony
pub one_alone : (w p : PenState) (m : ℕ) (pens : List PenState) (n k : ℕ) → Testimony (w ∷ []) m ≡ Testimony pens n → slice_get pens k ≡ Some p → w ≡ p
one_alone w p m pens n k f of =
    let g : w ∷ [] ≡ pens = cc in
    only k (subst (λ (l : List PenState). slice_get l k ≡ Some p) (sym g) of)
  where
    only : (i : ℕ) → slice_get (w ∷ []) i ≡ Some p → w ≡ p
    only zero h = cc
    only (suc i) h = absurd (cc h)

-- a testimony that a pen gives: where it has retired, it stands so at its seat, and does not lead
pub one_rests : (views : List View) (w : PenState) → (w.duty ≡ Retired → Rests views w) → AllRest views (Testimony (w ∷ []) 0)
one_rests views w rests pens n k p e of gone =
    let same = one_alone w p 0 pens n k e of in
    subst (Rests views) same (rests (subst (λ (x : PenState). x.duty ≡ Retired) (sym same) gone))
