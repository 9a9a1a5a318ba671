-- A pen keeps the positions of all its acts, and a step gives it the next ones.
use Rattle.std.proofs.Common.{◌≡◌, ◌≢◌, ℕ, zero, suc, ◌+◌, ◌<◌, ◌≤◌, ◌⊎◌, inl, inr, ⊎_elim, Bool, true, false, List, [], ◌∷◌, ◌++◌, length, set, slice_get, refl, ap, sym, ◌∙◌, subst, arith, length-append}
use Rattle.std.specs.Prelude.{Some}
use mathlib.Core.Logic.{dite}
use native.Mathlib.Decide.{ℕ_discrete, dec_lt}
use Rattle.atomic_table.proofs.Lists.{set_else}
use Rattle.pq_types.specs.Asked.{Operation}
use Rattle.pq_types.specs.Asked.{Answer}
use Rattle.desk_core.specs.Desk.{Has, acts_number, time, put, dealer_opening}
use Rattle.desk_core.specs.Linearizable.{Act, Begins, Ends, TakeTurns}
use Rattle.desk_core.specs.Dealing.{dealt_history}
use Rattle.desk_core.specs.Times.{BeganAt, EndedAt, KeepsPosition, IsTimed, IsWhole, AreTimed, EveryDealtRunIsWhole}
use Rattle.desk_core.specs.Positions.{KeepsTheNext, PositionsAreForced}
use Rattle.desk_core.specs.declared.model.PenState.{PenState}
use Rattle.desk_core.specs.declared.model.View.{View}
use Rattle.desk_core.specs.declared.model.View.TheVariants.{Holder}
use Rattle.desk_core.proofs.Journals.{QueueLaws, get_last}
use Rattle.desk_core.proofs.Histories.{get_cases}
use Rattle.desk_core.proofs.Records.{put_here, put_else}
use Rattle.desk_core.proofs.Views.{same_pen, has_here, has_else}
use Rattle.desk_core.proofs.Reached.{reached_meet}
use Rattle.desk_core.proofs.LinearRuns.{every_dealt_run_is_linearizable}
use Rattle.desk_core.proofs.Times.{acts_set, found, second_of, every_run_is_timed}

-- each pen has a place of its own
abbrev Apart : List View → Type 0
Apart views = (i j : ℕ) (p q : PenState) → Has views i p → Has views j q → p.place ≡ q.place → i ≡ j

pub within : {A : Type 0} (xs : List A) (n : ℕ) (x : A) → slice_get xs n ≡ Some x → n < length xs
within [] n x e = absurd (cc e)
within (y ∷ xs) zero x e = omega arith
within (y ∷ xs) (suc n) x e = let h = within xs n x e in omega (arith, h)

abbrev place_of : Act → ℕ
place_of (Begins place serial operation) = place
place_of (Ends place serial answer) = place

-- the act at a position that a pen keeps is one of its place
kept_act : (history : List Act) (p : PenState) (n : ℕ) → IsTimed history p → KeepsPosition p n
    → (x : Act) × (slice_get history n ≡ Some x) × (place_of x ≡ p.place)
kept_act history p n t k =
    ⊎_elim
    (λ u. (let f = t.begun u.0 n u.1 in (Begins p.place u.0 f.0, f.1, refl)))
    (λ u. (let f = t.ended u.0 n u.1 in (Ends p.place u.0 f.0, f.1, refl)))
    k

pub kept_within : (history : List Act) (p : PenState) (n : ℕ) → IsTimed history p → KeepsPosition p n → n < length history
kept_within history p n t k = let x = kept_act history p n t k in within history n x.0 x.1

-- no two pens keep one position
one_keeper : (views : List View) (history : List Act) → AreTimed views history → Apart views
    → (i j : ℕ) (p q : PenState) (n : ℕ) → Has views i p → Has views j q → KeepsPosition p n → KeepsPosition q n → i ≡ j
one_keeper views history t apart i j p q n a b k l =
    let x = kept_act history p n (t.pens i p a) k in
    let y = kept_act history q n (t.pens j q b) l in
    let same : x.0 ≡ y.0 = (let e : Some x.0 ≡ Some y.0 = sym x.1 ∙ y.1 in cc) in
    apart i j p q a b (sym x.2 ∙ (ap place_of same ∙ y.2))

moved_began : (q p : PenState) (s s' n : ℕ) → q ≡ p → s ≡ s' → BeganAt q s n → BeganAt p s' n
moved_began q p s s' n e f b = subst (λ k. BeganAt p k n) f (subst (λ (r : PenState). BeganAt r s n) e b)

moved_ended : (q p : PenState) (s s' n : ℕ) → q ≡ p → s ≡ s' → EndedAt q s n → EndedAt p s' n
moved_ended q p s s' n e f b = subst (λ k. EndedAt p k n) f (subst (λ (r : PenState). EndedAt r s n) e b)

pen_of_place : (views : List View) → Apart views → (i j : ℕ) (p q : PenState) → Has views i p → Has views j q → q.place ≡ p.place → q ≡ p
pen_of_place views apart i j p q a b e = same_pen views i q p (subst (λ k. Has views k q) (apart j i q p b a e) b) a

-- the history has no other acts of a pen's place than those that it keeps
pub whole : (views : List View) (history : List Act) → AreTimed views history → Apart views → (i : ℕ) (p : PenState) → Has views i p
    → IsWhole history (acts_number views) p
whole views history t apart i p a =
    let long = t.counted in
    record {
      begun = λ s n q lt e.
          (let u = t.kept n (omega (arith, lt, long)) in
          ⊎_elim
          (λ v.
          (let f = (t.pens u.0 u.1 u.2).begun v.0 n v.1 in
          let same : Some (Begins u.1.place v.0 f.0) ≡ Some (Begins p.place s q) = sym f.1 ∙ e in
          let place : u.1.place ≡ p.place = cc in
          let serial : v.0 ≡ s = cc in
          let pen = pen_of_place views apart i u.0 p u.1 a u.2 place in
          moved_began u.1 p v.0 s n pen serial v.1))
          (λ v.
          (let f = (t.pens u.0 u.1 u.2).ended v.0 n v.1 in
          absurd (let same : Some (Ends u.1.place v.0 f.0) ≡ Some (Begins p.place s q) = sym f.1 ∙ e in cc)))
          u.3);
      ended = λ s n x lt e.
          (let u = t.kept n (omega (arith, lt, long)) in
          ⊎_elim
          (λ v.
          (let f = (t.pens u.0 u.1 u.2).begun v.0 n v.1 in
          absurd (let same : Some (Begins u.1.place v.0 f.0) ≡ Some (Ends p.place s x) = sym f.1 ∙ e in cc)))
          (λ v.
          (let f = (t.pens u.0 u.1 u.2).ended v.0 n v.1 in
          let same : Some (Ends u.1.place v.0 f.0) ≡ Some (Ends p.place s x) = sym f.1 ∙ e in
          let place : u.1.place ≡ p.place = cc in
          let serial : v.0 ≡ s = cc in
          let pen = pen_of_place views apart i u.0 p u.1 a u.2 place in
          moved_ended u.1 p v.0 s n pen serial v.1))
          u.3);
    }

-- so it is before an earlier position, and whatever acts come
pub whole_before : (history : List Act) (p : PenState) (n m : ℕ) → n ≤ m → IsWhole history m p → IsWhole history n p
whole_before history p n m le w =
    record {
      begun = λ s k q lt e. w.begun s k q (omega (arith, lt, le)) e;
      ended = λ s k x lt e. w.ended s k x (omega (arith, lt, le)) e;
    }

at_first : (old new : List Act) (n : ℕ) (x : Act) → n < length old → slice_get (old ++ new) n ≡ Some x → slice_get old n ≡ Some x
at_first old new n x lt e = ⊎_elim (λ u. u.1) (λ u. absurd (let f = u.1 in omega (arith, f, lt))) (get_cases old new n x e)

pub whole_later : (old new : List Act) (p : PenState) (n : ℕ) → n < length old → IsWhole old n p → IsWhole (old ++ new) n p
whole_later old new p n long w =
    record {
      begun = λ s k q lt e. w.begun s k q lt (at_first old new k (Begins p.place s q) (omega (arith, lt, long)) e);
      ended = λ s k x lt e. w.ended s k x lt (at_first old new k (Ends p.place s x) (omega (arith, lt, long)) e);
    }

pub every_run_is_whole : QueueLaws → EveryDealtRunIsWhole
every_run_is_whole laws places limits moves d small run i p a =
    whole d.views (dealt_history (dealer_opening places limits) moves d run) (every_run_is_timed places limits moves d run)
    (reached_meet laws places limits d small (moves, run)).2.seated.apart i p a

-- a call that begins has a serial above the last of its place
rises : (place serial : ℕ) (operation : Operation) (last : ℕ → ℕ) (open_at : ℕ → Bool) (history : List Act) (n : ℕ)
    → TakeTurns last open_at history → slice_get history n ≡ Some (Begins place serial operation) → last place < serial
rises place serial operation last open_at [] n t e = absurd (cc e)
rises place serial operation last open_at (Begins k s q ∷ history) zero t e =
    let f : Begins k s q ≡ Begins place serial operation = cc in
    let at : k ≡ place = cc in
    let is : s ≡ serial = cc in
    subst (λ h. last h < serial) at (subst (λ h. last k < h) is t.1)
rises place serial operation last open_at (Begins k s q ∷ history) (suc n) t e =
    let r = rises place serial operation (put last k s) (put open_at k true) history n t.2 e in
    dite (ℕ_discrete place k)
    (λ at.
    (let here : put last k s place ≡ s = subst (λ h. put last k s h ≡ s) (sym at) (put_here last k s) in
    let was : last place < s = subst (λ h. last h < s) (sym at) t.1 in
    omega (arith, r, here, was)))
    (λ ne. (let else = put_else last k s place ne in omega (arith, r, else)))
rises place serial operation last open_at (Ends k s x ∷ history) zero t e = absurd (let f : Ends k s x ≡ Begins place serial operation = cc in cc)
rises place serial operation last open_at (Ends k s x ∷ history) (suc n) t e = rises place serial operation last (put open_at k false) history n t.2 e

-- a call begins before it ends
begins_first : (place serial : ℕ) (operation : Operation) (answer : Answer) (last : ℕ → ℕ) (open_at : ℕ → Bool) (history : List Act) (n m : ℕ)
    → TakeTurns last open_at history → slice_get history n ≡ Some (Begins place serial operation)
    → slice_get history m ≡ Some (Ends place serial answer) → n < m
begins_first place serial operation answer last open_at [] n m t e f = absurd (cc e)
begins_first place serial operation answer last open_at (x ∷ history) zero zero t e f =
    absurd (let g : Some (Begins place serial operation) ≡ Some (Ends place serial answer) = sym e ∙ f in cc)
begins_first place serial operation answer last open_at (x ∷ history) zero (suc m) t e f = omega arith
begins_first place serial operation answer last open_at (Begins k s q ∷ history) (suc n) zero t e f =
    absurd (let g : Begins k s q ≡ Ends place serial answer = cc in cc)
begins_first place serial operation answer last open_at (Ends k s y ∷ history) (suc n) zero t e f =
    let g : Ends k s y ≡ Ends place serial answer = cc in
    let at : k ≡ place = cc in
    let is : s ≡ serial = cc in
    let r = rises place serial operation last (put open_at k false) history n t.2 e in
    let same : last place ≡ serial = subst (λ h. last h ≡ serial) at (t.1 ∙ is) in
    absurd (omega (arith, r, same))
begins_first place serial operation answer last open_at (Begins k s q ∷ history) (suc n) (suc m) t e f =
    let h = begins_first place serial operation answer (put last k s) (put open_at k true) history n m t.2 e f in
    omega (arith, h)
begins_first place serial operation answer last open_at (Ends k s y ∷ history) (suc n) (suc m) t e f =
    let h = begins_first place serial operation answer last (put open_at k false) history n m t.2 e f in
    omega (arith, h)

-- where the pen p at a seat has become w, and all else of the views is as it was
module _ (views : List View) (i : ℕ) (p w : PenState) (history longer : List Act) (a : Has views i p) (t : AreTimed views history)
    (t' : AreTimed (set views i (Holder w)) longer) (apart : Apart views) (apart' : Apart (set views i (Holder w)))
    (turns : TakeTurns (λ _. 0) (λ _. false) longer) where
  abbrev before : ℕ
  before = acts_number views

  abbrev after : ℕ
  after = acts_number (set views i (Holder w))

  here : Has (set views i (Holder w)) i w
  here = has_here views i p w a

  old_is_before : (j : ℕ) (q : PenState) (n : ℕ) → Has views j q → KeepsPosition q n → n < before
  old_is_before j q n b k = let h = kept_within history q n (t.pens j q b) k in let long = t.counted in omega (arith, h, long)

  -- each position before the second time is the pen's own, or that of another pen, which it was before
  whose : (n : ℕ) → n < after → KeepsPosition w n ⊎ ((j : ℕ) × (q : PenState) × (j ≢ i) × Has views j q × KeepsPosition q n)
  whose n lt =
      let long = t'.counted in
      let u = t'.kept n (omega (arith, lt, long)) in
      dite (ℕ_discrete u.0 i)
      (λ e. inl (subst (λ (v : PenState). KeepsPosition v n) (same_pen (set views i (Holder w)) i u.1 w (subst (λ k. Has (set views i (Holder w)) k u.1) e u.2) here) u.3))
      (λ ne. inr (u.0, u.1, ne, sym (set_else views i u.0 (Holder w) ne) ∙ u.2, u.3))

  others : (n : ℕ) → KeepsPosition w n → KeepsPosition p n ⊎ ((before ≤ n) × (n < after))
  others n k =
      let long' = t'.counted in
      let h = kept_within longer w n (t'.pens i w here) k in
      elim (dec_lt n before) [
        | yes y ↦
            (let long = t.counted in
            let u = t.kept n (omega (arith, y, long)) in
            dite (ℕ_discrete u.0 i)
            (λ e. inl (subst (λ (v : PenState). KeepsPosition v n) (same_pen views i u.1 p (subst (λ k. Has views k u.1) e u.2) a) u.3))
            (λ ne. absurd (ne (one_keeper (set views i (Holder w)) longer t' apart' u.0 i u.1 w n (has_else views i u.0 w u.1 ne u.2) here u.3 k))))
        | no z ↦ inr (omega arith, omega (arith, h, long'))
      ]

  old : before ≤ after → (n : ℕ) → KeepsPosition p n → KeepsPosition w n
  old le n k =
      let lt = old_is_before i p n a k in
      ⊎_elim (λ u. u) (λ u. absurd (u.2 (one_keeper views history t apart u.0 i u.1 p n u.3 a u.4 k))) (whose n (omega (arith, lt, le)))

  new : (n : ℕ) → before ≤ n → n < after → KeepsPosition w n
  new n le lt = ⊎_elim (λ u. u) (λ u. absurd (let h = old_is_before u.0 u.1 n u.3 u.4 in omega (arith, h, le))) (whose n lt)

  not_old : (n : ℕ) → before ≤ n → KeepsPosition p n → ⊥
  not_old n le k = let h = old_is_before i p n a k in omega (arith, h, le)

  -- what it began or ended there it did so before, or just now
  began : (s n k : ℕ) → w.begins ≡ p.begins ++ (s, n) ∷ [] → ((serial : ℕ) × BeganAt w serial k) → KeepsPosition p k ⊎ (n ≡ k)
  began s n k e u =
      ⊎_elim (λ v. inl (inl (u.0, (u.1.0, v)))) (λ v. inr (second_of v))
      (found p.begins (s, n) (u.0, k) u.1.0 (ap (λ (l : List (ℕ × ℕ)). slice_get l u.1.0) (sym e) ∙ u.1.1))

  ended : (s n k : ℕ) → w.ends ≡ p.ends ++ (s, n) ∷ [] → ((serial : ℕ) × EndedAt w serial k) → KeepsPosition p k ⊎ (n ≡ k)
  ended s n k e u =
      ⊎_elim (λ v. inl (inr (u.0, (u.1.0, v)))) (λ v. inr (second_of v))
      (found p.ends (s, n) (u.0, k) u.1.0 (ap (λ (l : List (ℕ × ℕ)). slice_get l u.1.0) (sym e) ∙ u.1.1))

  began_before : (k : ℕ) → w.begins ≡ p.begins → ((serial : ℕ) × BeganAt w serial k) → KeepsPosition p k
  began_before k e u = inl (u.0, (u.1.0, ap (λ (l : List (ℕ × ℕ)). slice_get l u.1.0) (sym e) ∙ u.1.1))

  ended_before : (k : ℕ) → w.ends ≡ p.ends → ((serial : ℕ) × EndedAt w serial k) → KeepsPosition p k
  ended_before k e u = inr (u.0, (u.1.0, ap (λ (l : List (ℕ × ℕ)). slice_get l u.1.0) (sym e) ∙ u.1.1))

  -- the pen has so many acts more
  counts : (more over : ℕ) → length w.begins ≡ length p.begins + more → length w.ends ≡ length p.ends + over → after ≡ before + more + over
  counts more over e f = let number = acts_set views i (Holder p) (Holder w) a in omega (arith, number, e, f)

  longer_by : (xs ys : List (ℕ × ℕ)) (x : ℕ × ℕ) → xs ≡ ys ++ x ∷ [] → length xs ≡ length ys + 1
  longer_by xs ys x e = ap (λ (l : List (ℕ × ℕ)). length l) e ∙ length-append ys (x ∷ [])

  as_long : (xs ys : List (ℕ × ℕ)) → xs ≡ ys → length xs ≡ length ys + 0
  as_long xs ys e = let f : length xs ≡ length ys = ap (λ (l : List (ℕ × ℕ)). length l) e in omega (arith, f)

  begins_next : (s n : ℕ) → w.begins ≡ p.begins ++ (s, n) ∷ [] → w.ends ≡ p.ends → n ≡ before
  begins_next s n e f =
      let count = counts 1 0 (longer_by w.begins p.begins (s, n) e) (as_long w.ends p.ends f) in
      let le : before ≤ before = omega arith in
      ⊎_elim
      (λ u. ⊎_elim (λ v. absurd (not_old before le v)) (λ v. v) (began s n before e u))
      (λ u. absurd (not_old before le (ended_before before f u)))
      (new before le (omega (arith, count)))

  ends_next : (s n : ℕ) → w.begins ≡ p.begins → w.ends ≡ p.ends ++ (s, n) ∷ [] → n ≡ before
  ends_next s n e f =
      let count = counts 0 1 (as_long w.begins p.begins e) (longer_by w.ends p.ends (s, n) f) in
      let le : before ≤ before = omega arith in
      ⊎_elim
      (λ u. absurd (not_old before le (began_before before e u)))
      (λ u. ⊎_elim (λ v. absurd (not_old before le v)) (λ v. v) (ended s n before f u))
      (new before le (omega (arith, count)))

  either_new : (s n m k : ℕ) → w.begins ≡ p.begins ++ (s, n) ∷ [] → w.ends ≡ p.ends ++ (s, m) ∷ [] → before ≤ k → k < after
      → (n ≡ k) ⊎ (m ≡ k)
  either_new s n m k e f le lt =
      ⊎_elim
      (λ u. ⊎_elim (λ v. absurd (not_old k le v)) (λ v. inl v) (began s n k e u))
      (λ u. ⊎_elim (λ v. absurd (not_old k le v)) (λ v. inr v) (ended s m k f u))
      (new k le lt)

  both_next : (s n m : ℕ) → w.begins ≡ p.begins ++ (s, n) ∷ [] → w.ends ≡ p.ends ++ (s, m) ∷ [] → (n ≡ before) × (m ≡ before + 1)
  both_next s n m e f =
      let count = counts 1 1 (longer_by w.begins p.begins (s, n) e) (longer_by w.ends p.ends (s, m) f) in
      let first = either_new s n m before e f (omega arith) (omega (arith, count)) in
      let second = either_new s n m (before + 1) e f (omega arith) (omega (arith, count)) in
      let u = (t'.pens i w here).begun s n (length p.begins, ap (λ (l : List (ℕ × ℕ)). slice_get l (length p.begins)) e ∙ get_last p.begins (s, n)) in
      let v = (t'.pens i w here).ended s m (length p.ends, ap (λ (l : List (ℕ × ℕ)). slice_get l (length p.ends)) f ∙ get_last p.ends (s, m)) in
      let order = begins_first w.place s u.0 v.0 (λ _. 0) (λ _. false) longer n m turns u.1 v.1 in
      ⊎_elim
      (λ x. ⊎_elim (λ y. absurd (omega (arith, x, y))) (λ y. (x, y)) second)
      (λ x. absurd (⊎_elim (λ y. omega (arith, x, y, order)) (λ y. omega (arith, x, y)) second))
      first

  pub keeps_the_next : before ≤ after → KeepsTheNext before after p w
  keeps_the_next le = record { old = old le; new = new; others = others; begins = begins_next; ends = ends_next; both = both_next }

pub positions_are_forced : QueueLaws → PositionsAreForced
positions_are_forced laws places limits d d' i p w small (moves, run) (moves', run') a same le =
    let history = dealt_history (dealer_opening places limits) moves d run in
    let longer = dealt_history (dealer_opening places limits) moves' d' run' in
    let apart = (reached_meet laws places limits d small (moves, run)).2.seated.apart in
    let apart' = (reached_meet laws places limits d' small (moves', run')).2.seated.apart in
    let turns = (every_dealt_run_is_linearizable laws places limits moves' d' small run').2.turns in
    let t' : AreTimed (set d.views i (Holder w)) longer = subst (λ (vs : List View). AreTimed vs longer) same (every_run_is_timed places limits moves' d' run') in
    let number : time d' ≡ acts_number (set d.views i (Holder w)) = ap acts_number same in
    subst (λ n. KeepsTheNext (time d) n p w) (sym number)
    (keeps_the_next d.views i p w history longer a (every_run_is_timed places limits moves d run) t' apart
    (subst (λ (vs : List View). Apart vs) same apart') turns (subst (λ n. time d ≤ n) number le))
