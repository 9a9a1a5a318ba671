-- The duties of pens stay kept, while pens come out, take steps, retire, fall asleep and are woken, and testimonies are put together.
use Rattle.std.proofs.Common.{◌≡◌, ◌≢◌, ℕ, ◌+◌, ◌≤◌, ⊎_elim, Bool, true, false, List, [], ◌∷◌, ◌++◌, length, set, eq-eqb, ne_eqb, refl, ap, sym, ◌∙◌, subst, arith}
use Rattle.std.specs.List.{sum_by}
use Rattle.std.specs.Prelude.{Some, slice_get, if◌then◌else◌, ◌==◌}
use Rattle.std.proofs.lemmas.List.Sums.{sum_by-append, sum_by-cons, sum_by_push}
use mathlib.Core.Option.{some, some-injective, some-ne-none}
use lib.ListN.{get_elem?}
use mathlib.Core.Logic.{dite}
use native.Mathlib.Decide.{ℕ_discrete}
use Rattle.atomic_table.proofs.Lists.{at_set, at_snoc, at_longer, at_last, set_here, set_else}
use Rattle.pq_types.specs.Asked.{Line}
use Rattle.desk_core.specs.Desk.{Has}
use Rattle.desk_core.specs.Duties.{DutiesAreKept, HasTestified, RetiredAreKept, SleepersAreNew, one_if_retired, testified_at}
use Rattle.desk_core.specs.Pen.{new_pen}
use Rattle.desk_core.specs.Testimonies.{RetiredStay, after_retiring, after_sleeping}
use Rattle.desk_core.specs.declared.model.Duty.{Duty}
use Rattle.desk_core.specs.declared.model.Duty.TheVariants.{Active, Asleep, Retired}
use Rattle.desk_core.specs.declared.model.PenState.{PenState}
use Rattle.desk_core.specs.declared.model.View.{View}
use Rattle.desk_core.specs.declared.model.View.TheVariants.{Dealer, Holder, Note, Testimony}
use Rattle.announce_board.proofs.Retiring.{AllRest, stays_set, stays_more, pens_first, pens_second, both_rest, none_rest, one_rests}
use Rattle.announce_board.proofs.Sums.{sum_set, sum_none, sum_both, get_at, length_at}

-- The view is no retired pen, and no testimony of one; and a pen that sleeps is as new.
pub record IsQuiet (v : View) : Type 0 where
  pub gone_not : (p : PenState) → v ≡ Holder p → p.duty ≡ Retired → ⊥
  pub testified_not : (pens : List PenState) (n k : ℕ) (p : PenState) → v ≡ Testimony pens n → slice_get pens k ≡ Some p → p.duty ≡ Retired → ⊥
  pub new : (p : PenState) → v ≡ Holder p → p.duty ≡ Asleep → p ≡ after_sleeping (new_pen p.room p.place)

-- a pen that acts
pub pen_quiet : (p : PenState) → p.duty ≡ Active → IsQuiet (Holder p)
pen_quiet p active = record {
  gone_not = λ q e gone.
      (let f : Holder p ≡ Holder q = e in
      let g : p ≡ q = cc in
      let h : Active ≡ Retired = sym active ∙ (ap (λ (x : PenState). x.duty) g ∙ gone) in
      cc);
  testified_not = λ pens n k q e at gone. (let f : Holder p ≡ Testimony pens n = e in cc);
  new = λ q e asleep. absurd
      (let f : Holder p ≡ Holder q = e in
      let g : p ≡ q = cc in
      let h : Active ≡ Asleep = sym active ∙ (ap (λ (x : PenState). x.duty) g ∙ asleep) in
      cc);
}

-- a pen that sleeps, as new
pub sleeper_quiet : (p : PenState) → p ≡ new_pen p.room p.place → IsQuiet (Holder (after_sleeping p))
sleeper_quiet p new = record {
  gone_not = λ q e gone.
      (let f : Holder (after_sleeping p) ≡ Holder q = e in
      let g : after_sleeping p ≡ q = cc in
      let h : Asleep ≡ Retired = ap (λ (x : PenState). x.duty) g ∙ gone in
      cc);
  testified_not = λ pens n k q e at gone. (let f : Holder (after_sleeping p) ≡ Testimony pens n = e in cc);
  new = λ q e asleep.
      (let f : Holder (after_sleeping p) ≡ Holder q = e in
      let g : after_sleeping p ≡ q = cc in
      subst (λ (x : PenState). x ≡ after_sleeping (new_pen x.room x.place)) g (ap after_sleeping new));
}

pub dealer_quiet : (place room : ℕ) → IsQuiet (Dealer place room)
dealer_quiet place room = record {
  gone_not = λ p e gone. (let f : Dealer place room ≡ Holder p = e in cc);
  testified_not = λ pens n k p e at gone. (let f : Dealer place room ≡ Testimony pens n = e in cc);
  new = λ p e asleep. absurd (let f : Dealer place room ≡ Holder p = e in cc);
}

pub note_quiet : (told : List Line) → IsQuiet (Note told)
note_quiet told = record {
  gone_not = λ p e gone. (let f : Note told ≡ Holder p = e in cc);
  testified_not = λ pens n k p e at gone. (let f : Note told ≡ Testimony pens n = e in cc);
  new = λ p e asleep. absurd (let f : Note told ≡ Holder p = e in cc);
}

-- a testimony of pens that act, or of none
pub testimony_quiet : (pens : List PenState) (n : ℕ) → ((k : ℕ) (p : PenState) → slice_get pens k ≡ Some p → p.duty ≡ Retired → ⊥) → IsQuiet (Testimony pens n)
testimony_quiet pens n active = record {
  gone_not = λ p e gone. (let f : Testimony pens n ≡ Holder p = e in cc);
  testified_not = λ all m k p e at gone.
      (let f : Testimony pens n ≡ Testimony all m = e in
      let g : pens ≡ all = cc in
      active k p (subst (λ (l : List PenState). slice_get l k ≡ Some p) (sym g) at) gone);
  new = λ p e asleep. absurd (let f : Testimony pens n ≡ Holder p = e in cc);
}

-- how much a pen counts at a place
abbrev pub counts_at : ℕ → PenState → ℕ
counts_at place p = if p.place == place then one_if_retired p.duty else 0

none_if : (here : Bool) (duty : Duty) → (duty ≡ Retired → ⊥) → (if here then one_if_retired duty else 0) ≡ 0
none_if true Active ne = refl
none_if true Asleep ne = refl
none_if true Retired ne = absurd (ne refl)
none_if false duty ne = refl

none_elsewhere : (p : PenState) (place : ℕ) → p.place ≢ place → counts_at place p ≡ 0
none_elsewhere p place ne = ap (λ (b : Bool). if b then one_if_retired p.duty else 0) (ne_eqb p.place place ne)

pub one_here : (p : PenState) (place : ℕ) → p.place ≡ place → p.duty ≡ Retired → counts_at place p ≡ 1
one_here p place here gone = ap (λ (b : Bool). if b then one_if_retired p.duty else 0) (eq-eqb p.place place here) ∙ ap one_if_retired gone

-- no retired pen of this place stands in a testimony
none_at : (place : ℕ) (v : View) → ((pens : List PenState) (n k : ℕ) (p : PenState) → v ≡ Testimony pens n → slice_get pens k ≡ Some p → p.duty ≡ Retired → p.place ≡ place → ⊥)
    → testified_at place v ≡ 0
none_at place (Dealer next room) none = refl
none_at place (Holder p) none = refl
none_at place (Note told) none = refl
none_at place (Testimony pens n) none =
    sum_none (counts_at place) pens
    (λ k p at.
    dite (ℕ_discrete p.place place)
    (λ here. none_if (p.place == place) p.duty (λ gone. none pens n k p refl (get_at pens k p at) gone here))
    (λ ne. none_elsewhere p place ne))

quiet_at : (place : ℕ) (v : View) → IsQuiet v → testified_at place v ≡ 0
quiet_at place v quiet = none_at place v (λ pens n k p e at gone here. quiet.testified_not pens n k p e at gone)

-- where no seat is
pub none_yet : DutiesAreKept []
none_yet = record {
  stay = λ i pens n k p e of gone. absurd (some-ne-none (Testimony pens n) (sym e));
  kept = λ seat p e gone. absurd (some-ne-none (Holder p) (sym e));
  new = λ seat p e asleep. absurd (some-ne-none (Holder p) (sym e));
  apart = λ place. omega arith;
}

-- a quiet view is no testimony of a retired pen
quiet_rests : (views : List View) (w : View) → IsQuiet w → AllRest views w
quiet_rests views w quiet pens n k p e at gone = absurd (quiet.testified_not pens n k p e at gone)

-- a quiet view becomes another
pub quiet_set : (views : List View) (id : ℕ) (v w : View) → DutiesAreKept views → get_elem? views id ≡ some v → IsQuiet v → IsQuiet w
    → DutiesAreKept (set views id w)
quiet_set views id v w d at old new = record {
  stay = stays_set views id v w d.stay at old.gone_not (quiet_rests views w new);
  kept = λ seat p has gone.
      ⊎_elim
      (λ u. absurd (new.gone_not p u.1 gone))
      (λ u.
      (let (i, pens, n, there, (k, of)) = d.kept seat p u.1 gone in
      let ne : i ≢ id = λ e.
      (let f : some (Testimony pens n) ≡ some v = sym there ∙ (ap (get_elem? views) e ∙ at) in
      old.testified_not pens n k p (sym (some-injective (Testimony pens n) v f)) of gone) in
      (i, pens, n, set_else views id i w ne ∙ there, (k, of))))
      (at_set views id seat w (Holder p) has);
  new = λ seat p has asleep. ⊎_elim (λ u. new.new p u.1 asleep) (λ u. d.new seat p u.1 asleep) (at_set views id seat w (Holder p) has);
  apart = λ place.
      (let a = sum_set (testified_at place) views id v w at in
      let b = quiet_at place v old in
      let c = quiet_at place w new in
      let few = d.apart place in
      omega (arith, a, b, c, few));
}

-- a quiet view comes behind the others
pub quiet_more : (views : List View) (w : View) → DutiesAreKept views → IsQuiet w → DutiesAreKept (views ++ w ∷ [])
quiet_more views w d new = record {
  stay = stays_more views w d.stay (quiet_rests views w new);
  kept = λ seat p has gone.
      ⊎_elim
      (λ u. (let (i, pens, n, there, of) = d.kept seat p u gone in (i, pens, n, at_longer views (w ∷ []) i (Testimony pens n) there, of)))
      (λ u. absurd (new.gone_not p u gone))
      (at_snoc views w (Holder p) seat has);
  new = λ seat p has asleep. ⊎_elim (λ u. d.new seat p u asleep) (λ u. new.new p u asleep) (at_snoc views w (Holder p) seat has);
  apart = λ place.
      (let a = sum_by_push (testified_at place) views w in
      let c = quiet_at place w new in
      let few = d.apart place in
      omega (arith, a, c, few));
}

-- a pen that acts takes a step
pub acts_on : (views : List View) (id : ℕ) (p w : PenState) → DutiesAreKept views → Has views id p → p.duty ≡ Active → w.duty ≡ Active
    → DutiesAreKept (set views id (Holder w))
acts_on views id p w d has active acts = quiet_set views id (Holder p) (Holder w) d has (pen_quiet p active) (pen_quiet w acts)

-- a pen that acts and does not lead retires
module _ (views : List View) (id : ℕ) (p : PenState) (d : DutiesAreKept views) (has : Has views id p) (active : p.duty ≡ Active) (idle : p.leading ≡ false)
    (alone : (seat : ℕ) (q : PenState) → Has views seat q → q.place ≡ p.place → seat ≡ id) where
  abbrev w : PenState
  w = after_retiring p

  abbrev before : List View
  before = set views id (Holder w)

  abbrev last : View
  last = Testimony (w ∷ []) 0

  -- no retired pen of its place has testified before
  none_before : (pens : List PenState) (i n k : ℕ) (q : PenState) → get_elem? views i ≡ some (Testimony pens n) → slice_get pens k ≡ Some q → q.duty ≡ Retired → q.place ≡ p.place → ⊥
  none_before pens i n k q there of gone here =
      let ((seat, at), rests) = d.stay i pens n k q there of gone in
      let f : some (Holder q) ≡ some (Holder p) = sym at ∙ (ap (get_elem? views) (alone seat q at here) ∙ has) in
      let g : Holder q ≡ Holder p = some-injective (Holder q) (Holder p) f in
      let h : q ≡ p = cc in
      let e : Retired ≡ Active = sym gone ∙ (ap (λ (x : PenState). x.duty) h ∙ active) in
      cc

  counted_before : (place : ℕ) → p.place ≡ place → sum_by (testified_at place) views ≡ 0
  counted_before place here =
      sum_none (testified_at place) views
      (λ i v at. none_at place v (λ pens n k q e of gone there. none_before pens i n k q (at ∙ ap some e) of gone (there ∙ sym here)))

  counted_last : (place : ℕ) → testified_at place last ≡ counts_at place w
  counted_last place = let a = sum_by-cons (counts_at place) w [] in omega (arith, a)

  counted : (place : ℕ) → sum_by (testified_at place) (before ++ last ∷ []) ≡ sum_by (testified_at place) views + counts_at place w
  counted place =
      let a = sum_by_push (testified_at place) before last in
      let b = sum_set (testified_at place) views id (Holder p) (Holder w) has in
      let c = counted_last place in
      omega (arith, a, b, c)

  retires_apart : (place : ℕ) → sum_by (testified_at place) (before ++ last ∷ []) ≤ 1
  retires_apart place =
      dite (ℕ_discrete p.place place)
      (λ here. (let a = counted place in let b = counted_before place here in let c = one_here w place here refl in omega (arith, a, b, c)))
      (λ ne. (let a = counted place in let b = none_elsewhere w place ne in let few = d.apart place in omega (arith, a, b, few)))

  retires_stay : RetiredStay (before ++ last ∷ [])
  retires_stay =
      stays_more before last
      (stays_set views id (Holder p) (Holder w) d.stay has (pen_quiet p active).gone_not (λ pens n k q e of gone. absurd (let f : Holder w ≡ Testimony pens n = e in cc)))
      (one_rests before w (λ _. ((id, set_here views id (Holder w) (length_at views id (Holder p) has)), idle)))

  retires_kept : RetiredAreKept (before ++ last ∷ [])
  retires_kept seat q there gone =
      ⊎_elim
      (λ u.
      ⊎_elim
      (λ v.
      (let f : Holder w ≡ Holder q = v.1 in
      let g : w ≡ q = cc in
      (length before, w ∷ [], 0, at_last before last (length before) refl, (0, ap Some g))))
      (λ v.
      (let (i, pens, n, at, of) = d.kept seat q v.1 gone in
      let ne : i ≢ id = λ e. (let f : some (Testimony pens n) ≡ some (Holder p) = sym at ∙ (ap (get_elem? views) e ∙ has) in cc) in
      (i, pens, n, at_longer before (last ∷ []) i (Testimony pens n) (set_else views id i (Holder w) ne ∙ at), of)))
      (at_set views id seat (Holder w) (Holder q) u))
      (λ u. absurd (let f : Testimony (w ∷ []) 0 ≡ Holder q = u in cc))
      (at_snoc before last (Holder q) seat there)

  retires_new : SleepersAreNew (before ++ last ∷ [])
  retires_new seat q there asleep =
      ⊎_elim
      (λ u.
      ⊎_elim
      (λ v.
      absurd
      (let f : Holder w ≡ Holder q = v.1 in
      let g : w ≡ q = cc in
      let h : Retired ≡ Asleep = ap (λ (x : PenState). x.duty) g ∙ asleep in
      cc))
      (λ v. d.new seat q v.1 asleep)
      (at_set views id seat (Holder w) (Holder q) u))
      (λ u. absurd (let f : Testimony (w ∷ []) 0 ≡ Holder q = u in cc))
      (at_snoc before last (Holder q) seat there)

  pub retires : DutiesAreKept (set views id (Holder (after_retiring p)) ++ Testimony (after_retiring p ∷ []) 0 ∷ [])
  retires = record { stay = retires_stay; kept = retires_kept; new = retires_new; apart = retires_apart }

-- two testimonies are put together
module _ (views : List View) (id other : ℕ) (pens more : List PenState) (n m : ℕ) (d : DutiesAreKept views) (at : get_elem? views id ≡ some (Testimony pens n))
    (there : get_elem? views other ≡ some (Testimony more m)) (ne : other ≢ id) where
  abbrev both : View
  both = Testimony (pens ++ more) (n + m)

  abbrev half : List View
  half = set views id both

  abbrev after : List View
  after = set half other (Testimony [] 0)

  -- what stands there afterwards
  here : get_elem? after id ≡ some both
  here = set_else half other id (Testimony [] 0) (λ e. ne (sym e)) ∙ set_here views id both (length_at views id (Testimony pens n) at)

  other_still : get_elem? half other ≡ some (Testimony more m)
  other_still = set_else views id other both ne ∙ there

  testimony_active : (ps : List PenState) (k : ℕ) (p : PenState) → Testimony ps k ≡ Holder p → p.duty ≡ Retired → ⊥
  testimony_active ps k p e gone = let f : Testimony ps k ≡ Holder p = e in cc

  gathers_stay : RetiredStay after
  gathers_stay =
      stays_set half other (Testimony more m) (Testimony [] 0)
      (stays_set views id (Testimony pens n) both d.stay at (testimony_active pens n) (both_rest views id other pens more n m d.stay at there))
      other_still (testimony_active more m) (none_rest half 0)

  -- a pen at a seat stood there before
  pen_before : (seat : ℕ) (p : PenState) → Has after seat p → Has views seat p
  pen_before seat p has =
      ⊎_elim
      (λ u. absurd (let f : Testimony [] 0 ≡ Holder p = u.1 in cc))
      (λ u. ⊎_elim (λ v. absurd (let f : Testimony (pens ++ more) (n + m) ≡ Holder p = v.1 in cc)) (λ v. v.1) (at_set views id seat both (Holder p) u.1))
      (at_set half other seat (Testimony [] 0) (Holder p) has)

  -- a pen of a testimony still is
  still_testified : (p : PenState) → HasTestified views p → HasTestified after p
  still_testified p (i, ps, l, a, (k, of)) =
      dite (ℕ_discrete i id)
      (λ e.
      (let f : some (Testimony ps l) ≡ some (Testimony pens n) = sym a ∙ (ap (get_elem? views) e ∙ at) in
      let g : Testimony ps l ≡ Testimony pens n = some-injective (Testimony ps l) (Testimony pens n) f in
      let h : ps ≡ pens = cc in
      (id, pens ++ more, n + m, here, (k, pens_first pens more k p (subst (λ (q : List PenState). slice_get q k ≡ Some p) h of)))))
      (λ ni.
      dite (ℕ_discrete i other)
      (λ e.
      (let f : some (Testimony ps l) ≡ some (Testimony more m) = sym a ∙ (ap (get_elem? views) e ∙ there) in
      let g : Testimony ps l ≡ Testimony more m = some-injective (Testimony ps l) (Testimony more m) f in
      let h : ps ≡ more = cc in
      (id, pens ++ more, n + m, here, pens_second pens more k p (subst (λ (q : List PenState). slice_get q k ≡ Some p) h of))))
      (λ no_other. (i, ps, l, set_else half other i (Testimony [] 0) no_other ∙ (set_else views id i both ni ∙ a), (k, of))))

  gathers_apart : (place : ℕ) → sum_by (testified_at place) after ≤ 1
  gathers_apart place =
      let a = sum_by-append (counts_at place) pens more in
      let b = sum_both (testified_at place) views id other (Testimony pens n) (Testimony more m) both (Testimony [] 0) at there ne (omega (arith, a)) in
      let few = d.apart place in
      omega (arith, b, few)

  pub gathers : DutiesAreKept (set (set views id (Testimony (pens ++ more) (n + m))) other (Testimony [] 0))
  gathers = record {
    stay = gathers_stay;
    kept = λ seat p has gone. still_testified p (d.kept seat p (pen_before seat p has) gone);
    new = λ seat p has asleep. d.new seat p (pen_before seat p has) asleep;
    apart = gathers_apart;
  }
