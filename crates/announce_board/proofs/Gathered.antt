-- Where a testimony has all pens, no other view weighs anything: so no pen acts, none leads, and each pen that has read or asked
-- anything stands in that testimony, in one place of it.
use Rattle.std.proofs.Common.{◌≡◌, ◌≢◌, ℕ, ◌≤◌, ⊎_elim, true, true≢false, List, [], slice_get, refl, ap, sym, ◌∙◌, subst, arith}
use Rattle.std.specs.Prelude.{Some}
use mathlib.Core.Option.{some, some-injective}
use lib.ListN.{get_elem?}
use mathlib.Core.Logic.{dite}
use native.Mathlib.Decide.{ℕ_discrete}
use Rattle.desk_core.specs.Desk.{Has}
use Rattle.desk_core.specs.Duties.{DutiesAreKept, one_if_active, one_if_retired, testified_at, weight, weight_of}
use Rattle.desk_core.specs.Pen.{new_pen}
use Rattle.desk_core.specs.Testimonies.{after_sleeping}
use Rattle.desk_core.specs.Times.{KeepsPosition}
use Rattle.desk_core.specs.declared.model.Duty.{Duty}
use Rattle.desk_core.specs.declared.model.Duty.TheVariants.{Active, Asleep, Retired}
use Rattle.desk_core.specs.declared.model.PenState.{PenState}
use Rattle.desk_core.specs.declared.model.View.{View}
use Rattle.desk_core.specs.declared.model.View.TheVariants.{Holder, Testimony}
use Rattle.announce_board.specs.Opening.{HasAll}
use Rattle.announce_board.proofs.Duties.{counts_at, one_here}
use Rattle.announce_board.proofs.Sums.{sum_one, sum_two, sum_apart, at_get}
use Rattle.announce_board.proofs.Weights.{weighs_all}

-- a pen that has taken no step keeps no position
keeps_none : (p q : PenState) → p ≡ q → q.begins ≡ [] → q.ends ≡ [] → (m : ℕ) → KeepsPosition p m → ⊥
keeps_none p q same begins ends m keeps =
    ⊎_elim
    (λ u. (let e : slice_get [] u.1.0 ≡ Some (u.0, m) = subst (λ (l : List (ℕ × ℕ)). slice_get l u.1.0 ≡ Some (u.0, m)) (ap (λ (x : PenState). x.begins) same ∙ begins) u.1.1 in cc))
    (λ u. (let e : slice_get [] u.1.0 ≡ Some (u.0, m) = subst (λ (l : List (ℕ × ℕ)). slice_get l u.1.0 ≡ Some (u.0, m)) (ap (λ (x : PenState). x.ends) same ∙ ends) u.1.1 in cc))
    keeps

module _ (views : List View) (id : ℕ) (pens : List PenState) (n : ℕ) (d : DutiesAreKept views) (at : get_elem? views id ≡ some (Testimony pens n)) where
  -- two retired pens of a testimony at one place are one
  pub pens_apart : (j k : ℕ) (p q : PenState) → slice_get pens j ≡ Some p → slice_get pens k ≡ Some q → p.duty ≡ Retired → q.duty ≡ Retired → p.place ≡ q.place → j ≡ k
  pens_apart j k p q of there gone gone_too here =
      let few = d.apart q.place in
      let one = sum_one (testified_at q.place) views id (Testimony pens n) at in
      sum_apart (counts_at q.place) pens k j q p (omega (arith, few, one)) (at_get pens k q there) (at_get pens j p of)
      (one_here q q.place refl gone_too) (one_here p q.place here gone)

  module _ (places : ℕ) (within : weight_of places views ≤ places) (all : HasAll places pens n) where
    full : weight places (Testimony pens n) ≡ places
    full = let a = weighs_all pens all.retired in let b = all.counted in omega (arith, a, b)

    -- no other view weighs anything
    nothing_else : (j : ℕ) (v : View) → get_elem? views j ≡ some v → j ≢ id → weight places v ≡ 0
    nothing_else j v there ne =
        let t = sum_two (weight places) views id j (Testimony pens n) v at there ne in
        let f = full in
        omega (arith, t, f, within)

    -- no pen acts
    acts_not : (j : ℕ) (p : PenState) → Has views j p → p.duty ≡ Active → ⊥
    acts_not j p has active =
        let ne : j ≢ id = λ e. (let f : some (Holder p) ≡ some (Testimony pens n) = sym has ∙ (ap (get_elem? views) e ∙ at) in cc) in
        let a = nothing_else j (Holder p) has ne in
        let b : one_if_active p.duty ≡ 1 = ap one_if_active active in
        omega (arith, a, b)

    -- each retired pen stands in this testimony
    retired_here : (j : ℕ) (p : PenState) → Has views j p → p.duty ≡ Retired → (k : ℕ) × (slice_get pens k ≡ Some p)
    retired_here j p has gone =
        let (i, ps, m, there, (k, of)) = d.kept j p has gone in
        dite (ℕ_discrete i id)
        (λ e.
        (let f : some (Testimony ps m) ≡ some (Testimony pens n) = sym there ∙ (ap (get_elem? views) e ∙ at) in
        let g : Testimony ps m ≡ Testimony pens n = some-injective (Testimony ps m) (Testimony pens n) f in
        let h : ps ≡ pens = cc in
        (k, subst (λ (l : List PenState). slice_get l k ≡ Some p) h of)))
        (λ ne.
        absurd
        (let a = nothing_else i (Testimony ps m) there ne in
        let b : one_if_retired p.duty ≡ 1 = ap one_if_retired gone in
        let c = sum_one (λ (q : PenState). one_if_retired q.duty) ps k p (at_get ps k p of) in
        omega (arith, a, b, c)))

    leads_not : (chief : ℕ) (q : PenState) → Has views chief q → q.leading ≡ true → (duty : Duty) → q.duty ≡ duty → ⊥
    leads_not chief q has leads Active e = acts_not chief q has e
    leads_not chief q has leads Asleep e = true≢false (sym leads ∙ ap (λ (x : PenState). x.leading) (d.new chief q has e))
    leads_not chief q has leads Retired e = let (k, of) = retired_here chief q has e in true≢false (sym leads ∙ (d.stay id pens n k q at of e).1)

    pub nobody_leads : (chief : ℕ) (q : PenState) → Has views chief q → q.leading ≡ true → ⊥
    nobody_leads chief q has leads = leads_not chief q has leads q.duty refl

    testifies : (j : ℕ) (p : PenState) → Has views j p → (m : ℕ) → KeepsPosition p m → (duty : Duty) → p.duty ≡ duty → (k : ℕ) × (slice_get pens k ≡ Some p)
    testifies j p has m keeps Active e = absurd (acts_not j p has e)
    testifies j p has m keeps Asleep e = absurd (keeps_none p (after_sleeping (new_pen p.room p.place)) (d.new j p has e) refl refl m keeps)
    testifies j p has m keeps Retired e = retired_here j p has e

    -- each pen that keeps a position stands in this testimony
    pub keepers_testify : (j : ℕ) (p : PenState) → Has views j p → (m : ℕ) → KeepsPosition p m → (k : ℕ) × (slice_get pens k ≡ Some p)
    keepers_testify j p has m keeps = testifies j p has m keeps p.duty refl
