-- The positions that the pens keep are those of their acts.
use Rattle.std.proofs.Common.{◌≡◌, ◌≢◌, ℕ, zero, suc, ◌+◌, ◌<◌, ◌≤◌, ◌⊎◌, inl, inr, ⊎_elim, List, [], ◌∷◌, ◌++◌, length, set, slice_get, refl, ap, sym, ◌∙◌, subst, arith, append-nil, append_assoc, length-append}
use Rattle.std.specs.Prelude.{Option, Some, None}
use mathlib.Core.Option.{some, some-injective, some-ne-none}
use lib.ListN.{get_elem?}
use mathlib.Core.Logic.{dite}
use native.Mathlib.Decide.{ℕ_discrete, dec_lt}
use Rattle.atomic_table.proofs.Lists.{at_set, set_else, set_again, at_longer, at_snoc}
use Rattle.pq_types.specs.Asked.{Request, Operation}
use Rattle.pq_types.specs.Operation.{Asked}
use Rattle.pq_types.specs.Asked.{Answer}
use Rattle.pq_types.specs.Asked.{Line}
use Rattle.desk_core.specs.CallLines.{IsLineOf}
use Rattle.desk_core.specs.Calls.{call}
use Rattle.desk_core.specs.Knows.{Knows}
use Rattle.desk_core.specs.declared.model.Call.{Call}
use Rattle.desk_core.proofs.CallLines.{calls_are_lines}
use Rattle.desk_core.proofs.Clauses.{knows, clauses_hold}
use Rattle.desk_core.proofs.Reached.{reached_meet}
use Rattle.desk_core.specs.Pen.{new_pen, told_by, ends_told, after_draft, after_post, after_lead, after_miss, after_read, after_read_item, after_lay, after_answer, after_release, after_release_by, after_look, after_see, after_take, after_apply, after_archive, after_change, after_hand_out}
use Rattle.desk_core.specs.Desk.{Desk, Has, acts_in, acts_number, time, dealer_opening}
use Rattle.desk_core.specs.Steps.{Event, Drafts, Posts, Tries, Reads, ReadsItem, LaysItem, Answers, Applies, Archives, Changes, HandsOut, Releases, ReleasesBy, Looks, SeesItem, TakesItem, Step}
use Rattle.desk_core.specs.Notes.{after_catch_up, after_writing, after_hearing}
use Rattle.desk_core.specs.Linearizable.{Act, Begins, Ends, told, acts}
use Rattle.desk_core.specs.Dealing.{Move, Deals, Takes, CatchesUp, Writes, Hears, Copies, Testifies, Retires, Sleeps, Wakes, Gathers, Happens, DealtRun, acts_of, dealt_history}
use Rattle.desk_core.specs.Testimonies.{after_retiring, after_sleeping, after_waking}
use Rattle.desk_core.specs.Times.{KeepsPosition, IsTimed, AreTimed, EveryDealtRunIsTimed, TimesOrderCalls}
use Rattle.pq_types.specs.Control.{answer_with}
use Rattle.desk_core.specs.declared.model.PenState.{PenState}
use Rattle.desk_core.specs.declared.model.View.{View}
use Rattle.desk_core.specs.declared.model.View.TheVariants.{Dealer, Holder, Note, Testimony}
use Rattle.desk_core.proofs.Journals.{QueueLaws, get_last, get_more}
use Rattle.desk_core.proofs.Histories.{get_behind, get_cases, one_alone}
use Rattle.desk_core.proofs.Views.{has_here, has_else, same_pen, each_after}
use Rattle.desk_core.proofs.Notes.{one_journal}
use Rattle.desk_core.proofs.LinearRuns.{every_dealt_run_is_linearizable}

-- the number of acts, where one view has become another, or one has come behind
pub acts_set : (views : List View) (i : ℕ) (v w : View) → get_elem? views i ≡ some v → acts_number (set views i w) + acts_in v ≡ acts_number views + acts_in w
acts_set [] i v w e = absurd (some-ne-none v (sym e))
acts_set (x ∷ xs) zero v w e =
    let f : acts_in x ≡ acts_in v = ap acts_in (some-injective x v e) in
    omega (arith, f)
acts_set (x ∷ xs) (suc i) v w e =
    let h = acts_set xs i v w e in
    omega (arith, h)

acts_more : (xs : List View) (v : View) → acts_number (xs ++ v ∷ []) ≡ acts_number xs + acts_in v
acts_more [] v = omega arith
acts_more (x ∷ xs) v =
    let h = acts_more xs v in
    omega (arith, h)

-- a position in a list with one more at the end
pub found : (xs : List (ℕ × ℕ)) (x y : ℕ × ℕ) (i : ℕ) → slice_get (xs ++ x ∷ []) i ≡ Some y → (slice_get xs i ≡ Some y) ⊎ (x ≡ y)
found xs x y i e = ⊎_elim (λ t. inl t.1) (λ t. inr (one_alone x y t.0 t.2).1) (get_cases xs (x ∷ []) i y e)

first_of : {a b c d : ℕ} → ◌≡◌ {A = ℕ × ℕ} (a, b) (c, d) → a ≡ c
first_of e = let f : ℕ × ℕ → ℕ = λ x. x.0 in ap f e

pub second_of : {a b c d : ℕ} → ◌≡◌ {A = ℕ × ℕ} (a, b) (c, d) → b ≡ d
second_of e = let f : ℕ × ℕ → ℕ = λ x. x.1 in ap f e

kept_more : (xs : List (ℕ × ℕ)) (x y : ℕ × ℕ) (i : ℕ) → slice_get xs i ≡ Some y → slice_get (xs ++ x ∷ []) i ≡ Some y
kept_more xs x y i e = get_more xs (x ∷ []) i y e

-- more acts of others change nothing
pub later : (old new : List Act) (q : PenState) → IsTimed old q → IsTimed (old ++ new) q
later old new q u =
    record {
      begun = λ s n e. (let r = u.begun s n e in (r.0, get_more old new n (Begins q.place s r.0) r.1));
      ended = λ s n e. (let r = u.ended s n e in (r.0, get_more old new n (Ends q.place s r.0) r.1));
    }

-- nor does what a pen does without an act
same_times : (history : List Act) (p w : PenState) → w.place ≡ p.place → w.begins ≡ p.begins → w.ends ≡ p.ends → IsTimed history p → IsTimed history w
same_times history p w place begins ends u =
    record {
      begun = λ s n e.
          (let r = u.begun s n (e.0, ap (λ (l : List (ℕ × ℕ)). slice_get l e.0) (sym begins) ∙ e.1) in
          (r.0, r.1 ∙ ap (λ k. Some (Begins k s r.0)) (sym place)));
      ended = λ s n e.
          (let r = u.ended s n (e.0, ap (λ (l : List (ℕ × ℕ)). slice_get l e.0) (sym ends) ∙ e.1) in
          (r.0, r.1 ∙ ap (λ k. Some (Ends k s r.0)) (sym place)));
    }

-- where the pen p at a seat has become w, which keeps the positions of the new acts
pen_timed : (views : List View) (i : ℕ) (p w : PenState) (old new : List Act) → Has views i p → AreTimed views old → IsTimed (old ++ new) w
    → length w.begins + length w.ends ≡ length p.begins + length p.ends + length new
    → ((n : ℕ) → KeepsPosition p n → KeepsPosition w n) → ((n : ℕ) → length old ≤ n → n < length old + length new → KeepsPosition w n)
    → AreTimed (set views i (Holder w)) (old ++ new)
pen_timed views i p w old new a t mine count still fresh =
    let number : acts_number (set views i (Holder w)) + (length p.begins + length p.ends) ≡ acts_number views + (length w.begins + length w.ends) =
    acts_set views i (Holder p) (Holder w) a in
    let before = t.counted in
    let long = length-append old new in
    record {
      counted = omega (arith, number, before, long, count);
      pens = each_after views i w (λ _ v. IsTimed (old ++ new) v) mine (λ k v ne c. later old new v (t.pens k v c));
      kept = λ n lt.
          elim (dec_lt n (length old)) [
            | yes y ↦
                (let u = t.kept n y in
                dite (ℕ_discrete u.0 i)
                (λ e. (i, w, has_here views i p w a, still n (subst (λ (v : PenState). KeepsPosition v n) (same_pen views i u.1 p (subst (λ k. Has views k u.1) e u.2) a) u.3)))
                (λ ne. (u.0, u.1, has_else views i u.0 w u.1 ne u.2, u.3)))
            | no z ↦ (i, w, has_here views i p w a, fresh n (omega arith) (omega (arith, long, lt)))
          ];
    }

-- a step without an act
quiet : (views : List View) (i : ℕ) (p w : PenState) (old : List Act) → Has views i p → AreTimed views old → w.place ≡ p.place → w.begins ≡ p.begins → w.ends ≡ p.ends
    → AreTimed (set views i (Holder w)) (old ++ [])
quiet views i p w old a t place begins ends =
    let more : length w.begins ≡ length p.begins = ap (λ (l : List (ℕ × ℕ)). length l) begins in
    let over : length w.ends ≡ length p.ends = ap (λ (l : List (ℕ × ℕ)). length l) ends in
    pen_timed views i p w old [] a t (later old [] w (same_times old p w place begins ends (t.pens i p a)))
    (omega (arith, more, over))
    (λ n k.
    ⊎_elim
    (λ u. inl (u.0, (u.1.0, ap (λ (l : List (ℕ × ℕ)). slice_get l u.1.0) begins ∙ u.1.1)))
    (λ u. inr (u.0, (u.1.0, ap (λ (l : List (ℕ × ℕ)). slice_get l u.1.0) ends ∙ u.1.1)))
    k)
    (λ n le lt. absurd (omega (arith, le, lt)))

-- a call begins
begins_timed : (views : List View) (i : ℕ) (p w : PenState) (old : List Act) (q : Request) → Has views i p → AreTimed views old → w.place ≡ p.place
    → w.begins ≡ p.begins ++ (p.posts + 1, acts_number views) ∷ [] → w.ends ≡ p.ends
    → AreTimed (set views i (Holder w)) (old ++ Begins p.place (p.posts + 1) (Asked q) ∷ [])
begins_timed views i p w old q a t place begins ends =
    let u = t.pens i p a in
    let x = Begins p.place (p.posts + 1) (Asked q) in
    let new = x ∷ [] in
    let now = acts_number views in
    let mark : ℕ × ℕ = (p.posts + 1, now) in
    let here = t.counted in
    let one = length-append p.begins (mark ∷ []) in
    let more : length w.begins ≡ length (p.begins ++ mark ∷ []) = ap (λ (l : List (ℕ × ℕ)). length l) begins in
    let over : length w.ends ≡ length p.ends = ap (λ (l : List (ℕ × ℕ)). length l) ends in
    pen_timed views i p w old new a t
    record {
      begun = λ s n e.
          ⊎_elim
          (λ v.
          (let r = u.begun s n (e.0, v) in
          (r.0, get_more old new n (Begins p.place s r.0) r.1 ∙ ap (λ k. Some (Begins k s r.0)) (sym place))))
          (λ v.
          (let at : n ≡ length old = sym (second_of v) ∙ sym here in (
            Asked q,
            ap (slice_get (old ++ new)) at ∙ (get_last old x
                ∙ (ap (λ k. Some (Begins p.place k (Asked q))) (first_of v) ∙ ap (λ k. Some (Begins k s (Asked q))) (sym place))),
          )))
          (found p.begins mark (s, n) e.0 (ap (λ (l : List (ℕ × ℕ)). slice_get l e.0) (sym begins) ∙ e.1));
      ended = λ s n e.
          (let r = u.ended s n (e.0, ap (λ (l : List (ℕ × ℕ)). slice_get l e.0) (sym ends) ∙ e.1) in
          (r.0, get_more old new n (Ends p.place s r.0) r.1 ∙ ap (λ k. Some (Ends k s r.0)) (sym place)));
    }
    (omega (arith, more, one, over))
    (λ n k.
    ⊎_elim
    (λ v. inl (v.0, (v.1.0, ap (λ (l : List (ℕ × ℕ)). slice_get l v.1.0) begins ∙ kept_more p.begins mark (v.0, n) v.1.0 v.1.1)))
    (λ v. inr (v.0, (v.1.0, ap (λ (l : List (ℕ × ℕ)). slice_get l v.1.0) ends ∙ v.1.1)))
    k)
    (λ n le lt.
    (let at : now ≡ n = omega (arith, le, lt, here) in
    inl (p.posts + 1, (length p.begins, ap (λ (l : List (ℕ × ℕ)). slice_get l (length p.begins)) begins ∙ (get_last p.begins mark ∙ ap (λ k. Some (p.posts + 1, k)) at)))))

-- a call ends
ends_timed : (views : List View) (i : ℕ) (p w : PenState) (old : List Act) (x : Answer) → Has views i p → AreTimed views old
    → w.place ≡ p.place → w.begins ≡ p.begins → w.ends ≡ p.ends ++ (p.posts, acts_number views) ∷ []
    → AreTimed (set views i (Holder w)) (old ++ Ends p.place p.posts x ∷ [])
ends_timed views i p w old x a t place begins ends =
    let u = t.pens i p a in
    let y = Ends p.place p.posts x in
    let new = y ∷ [] in
    let now = acts_number views in
    let mark : ℕ × ℕ = (p.posts, now) in
    let here = t.counted in
    let one = length-append p.ends (mark ∷ []) in
    let more : length w.begins ≡ length p.begins = ap (λ (l : List (ℕ × ℕ)). length l) begins in
    let over : length w.ends ≡ length (p.ends ++ mark ∷ []) = ap (λ (l : List (ℕ × ℕ)). length l) ends in
    pen_timed views i p w old new a t
    record {
      begun = λ s n e.
          (let r = u.begun s n (e.0, ap (λ (l : List (ℕ × ℕ)). slice_get l e.0) (sym begins) ∙ e.1) in
          (r.0, get_more old new n (Begins p.place s r.0) r.1 ∙ ap (λ k. Some (Begins k s r.0)) (sym place)));
      ended = λ s n e.
          ⊎_elim
          (λ v.
          (let r = u.ended s n (e.0, v) in
          (r.0, get_more old new n (Ends p.place s r.0) r.1 ∙ ap (λ k. Some (Ends k s r.0)) (sym place))))
          (λ v.
          (let at : n ≡ length old = sym (second_of v) ∙ sym here in (
            x,
            ap (slice_get (old ++ new)) at ∙ (get_last old y
                ∙ (ap (λ k. Some (Ends p.place k x)) (first_of v) ∙ ap (λ k. Some (Ends k s x)) (sym place))),
          )))
          (found p.ends mark (s, n) e.0 (ap (λ (l : List (ℕ × ℕ)). slice_get l e.0) (sym ends) ∙ e.1));
    }
    (omega (arith, more, one, over))
    (λ n k.
    ⊎_elim
    (λ v. inl (v.0, (v.1.0, ap (λ (l : List (ℕ × ℕ)). slice_get l v.1.0) begins ∙ v.1.1)))
    (λ v. inr (v.0, (v.1.0, ap (λ (l : List (ℕ × ℕ)). slice_get l v.1.0) ends ∙ kept_more p.ends mark (v.0, n) v.1.0 v.1.1)))
    k)
    (λ n le lt.
    (let at : now ≡ n = omega (arith, le, lt, here) in
    inr (p.posts, (length p.ends, ap (λ (l : List (ℕ × ℕ)). slice_get l (length p.ends)) ends ∙ (get_last p.ends mark ∙ ap (λ k. Some (p.posts, k)) at)))))

-- a call begins and ends in one step
both_timed : (views : List View) (i : ℕ) (p w : PenState) (old : List Act) (q : Operation) (x : Answer) → Has views i p → AreTimed views old
    → w.place ≡ p.place → w.begins ≡ p.begins ++ (p.posts + 1, acts_number views) ∷ [] → w.ends ≡ p.ends ++ (p.posts + 1, acts_number views + 1) ∷ []
    → AreTimed (set views i (Holder w)) (old ++ Begins p.place (p.posts + 1) q ∷ Ends p.place (p.posts + 1) x ∷ [])
both_timed views i p w old q x a t place begins ends =
    let u = t.pens i p a in
    let y = Begins p.place (p.posts + 1) q in
    let z = Ends p.place (p.posts + 1) x in
    let new = y ∷ z ∷ [] in
    let now = acts_number views in
    let mark : ℕ × ℕ = (p.posts + 1, now) in
    let then : ℕ × ℕ = (p.posts + 1, now + 1) in
    let here = t.counted in
    let more = length-append p.begins (mark ∷ []) in
    let over = length-append p.ends (then ∷ []) in
    let begun : length w.begins ≡ length (p.begins ++ mark ∷ []) = ap (λ (l : List (ℕ × ℕ)). length l) begins in
    let ended : length w.ends ≡ length (p.ends ++ then ∷ []) = ap (λ (l : List (ℕ × ℕ)). length l) ends in
    pen_timed views i p w old new a t
    record {
      begun = λ s n e.
          ⊎_elim
          (λ v.
          (let r = u.begun s n (e.0, v) in
          (r.0, get_more old new n (Begins p.place s r.0) r.1 ∙ ap (λ k. Some (Begins k s r.0)) (sym place))))
          (λ v.
          (let n_is : now ≡ n = second_of v in
          let at : n ≡ length old + 0 = omega (arith, n_is, here) in (
            q,
            ap (slice_get (old ++ new)) at ∙ (get_behind old new 0
                ∙ (ap (λ k. Some (Begins p.place k q)) (first_of v) ∙ ap (λ k. Some (Begins k s q)) (sym place))),
          )))
          (found p.begins mark (s, n) e.0 (ap (λ (l : List (ℕ × ℕ)). slice_get l e.0) (sym begins) ∙ e.1));
      ended = λ s n e.
          ⊎_elim
          (λ v.
          (let r = u.ended s n (e.0, v) in
          (r.0, get_more old new n (Ends p.place s r.0) r.1 ∙ ap (λ k. Some (Ends k s r.0)) (sym place))))
          (λ v.
          (let n_is : now + 1 ≡ n = second_of v in
          let at : n ≡ length old + 1 = omega (arith, n_is, here) in (
            x,
            ap (slice_get (old ++ new)) at ∙ (get_behind old new 1
                ∙ (ap (λ k. Some (Ends p.place k x)) (first_of v) ∙ ap (λ k. Some (Ends k s x)) (sym place))),
          )))
          (found p.ends then (s, n) e.0 (ap (λ (l : List (ℕ × ℕ)). slice_get l e.0) (sym ends) ∙ e.1));
    }
    (omega (arith, more, over, begun, ended))
    (λ n k.
    ⊎_elim
    (λ v. inl (v.0, (v.1.0, ap (λ (l : List (ℕ × ℕ)). slice_get l v.1.0) begins ∙ kept_more p.begins mark (v.0, n) v.1.0 v.1.1)))
    (λ v. inr (v.0, (v.1.0, ap (λ (l : List (ℕ × ℕ)). slice_get l v.1.0) ends ∙ kept_more p.ends then (v.0, n) v.1.0 v.1.1)))
    k)
    (λ n le lt.
    dite (ℕ_discrete now n)
    (λ at. inl (p.posts + 1, (length p.begins, ap (λ (l : List (ℕ × ℕ)). slice_get l (length p.begins)) begins ∙ (get_last p.begins mark ∙ ap (λ k. Some (p.posts + 1, k)) at))))
    (λ ne.
    (let at : now + 1 ≡ n = omega (arith, le, lt, here, ne) in
    inr (p.posts + 1, (length p.ends, ap (λ (l : List (ℕ × ℕ)). slice_get l (length p.ends)) ends ∙ (get_last p.ends then ∙ ap (λ k. Some (p.posts + 1, k)) at))))))

-- a view that knows no acts becomes another
plain_timed : (views : List View) (i : ℕ) (v w : View) (history : List Act) → get_elem? views i ≡ some v → acts_in v ≡ 0 → acts_in w ≡ 0 → ((q : PenState) → v ≡ Holder q → ⊥)
    → ((q : PenState) → w ≡ Holder q → ⊥) → AreTimed views history → AreTimed (set views i w) history
plain_timed views i v w history a none none' other other' t =
    let number = acts_set views i v w a in
    let before = t.counted in
    record {
      counted = omega (arith, number, before, none, none');
      pens = λ j q b. ⊎_elim (λ u. absurd (other' q u.1)) (λ u. t.pens j q u.1) (at_set views i j w (Holder q) b);
      kept = λ n lt.
          (let u = t.kept n lt in
          let ne : u.0 ≢ i = λ e. other u.1 (some-injective v (Holder u.1) (sym a ∙ (ap (get_elem? views) (sym e) ∙ u.2))) in
          (u.0, u.1, set_else views i u.0 w ne ∙ u.2, u.3));
    }

-- a view comes behind the others
snoc_timed : (views : List View) (v : View) (history : List Act) → acts_in v ≡ 0 → ((q : PenState) → v ≡ Holder q → IsTimed history q) → AreTimed views history
    → AreTimed (views ++ v ∷ []) history
snoc_timed views v history none new t =
    let number = acts_more views v in
    let before = t.counted in
    record {
      counted = omega (arith, number, before, none);
      pens = λ j q b. ⊎_elim (λ u. t.pens j q u) (λ u. new q u) (at_snoc views v (Holder q) j b);
      kept = λ n lt. (let u = t.kept n lt in (u.0, u.1, at_longer views (v ∷ []) u.0 (Holder u.1) u.2, u.3));
    }

new_timed : (history : List Act) (room k : ℕ) → IsTimed history (new_pen room k)
new_timed history room k =
    record {
      begun = λ s n e. absurd (let f : None ≡ Some (s, n) = e.1 in cc);
      ended = λ s n e. absurd (let f : None ≡ Some (s, n) = e.1 in cc);
    }

module _ (d : Desk) (old : List Act) (t : AreTimed d.views old) where
  looks_timed : (i : ℕ) (p w : PenState) → Has d.views i p → (o : Option Answer) → w.place ≡ p.place
      → w.begins ≡ p.begins → w.ends ≡ ends_told p.ends p.posts (acts_number d.views) o
      → AreTimed (set d.views i (Holder w)) (old ++ told p.place p.posts o)
  looks_timed i p w a None place begins ends = quiet d.views i p w old a t place begins ends
  looks_timed i p w a (Some x) place begins ends = ends_timed d.views i p w old x a t place begins ends

  -- the views of the desk to which a step leads
  leads_to : (e m : Desk) (new : List Act) → e ≡ m → AreTimed m.views (old ++ new) → AreTimed e.views (old ++ new)
  leads_to e m new same h = subst (λ (y : Desk). AreTimed y.views (old ++ new)) (sym same) h

  step_timed : (x : Event) (e : Desk) (step : Step d x e) → AreTimed e.views (old ++ acts d x e step)
  step_timed (Drafts i x) e (p, a, free, item, same) = leads_to e _ [] same (quiet d.views i p (after_draft p x) old a t refl refl refl)
  step_timed (Posts i q) e (p, draft, a, free, few, proper, drafted, same) =
      leads_to e _ (Begins p.place (p.posts + 1) (Asked q) ∷ []) same (begins_timed d.views i p (after_post p q (time d)) old q a t refl refl refl)
  step_timed (Tries i) e (p, a, c) =
      ⊎_elim
      (λ u. leads_to e _ [] u.1.2 (quiet d.views i p (after_lead p u.1.0) old a t refl refl refl))
      (λ u. leads_to e _ [] u.1 (quiet d.views i p (after_miss p) old a t refl refl refl))
      c
  step_timed (Reads i k) e (p, a, leads, inside, same) = leads_to e _ [] same (quiet d.views i p (after_read p k (d.control k)) old a t refl refl refl)
  step_timed (ReadsItem i) e (p, due, a, leads, is_due, push, same) =
      leads_to e _ [] same (quiet d.views i p (after_read_item p due (d.item due.place)) old a t refl refl refl)
  step_timed (LaysItem i x) e (p, due, a, leads, is_due, plain, item, same) = leads_to e _ [] same (quiet d.views i p (after_lay p due x) old a t refl refl refl)
  step_timed (Answers i x) e (p, due, q, a, leads, is_due, is_kind, known, laid, may, same) =
      leads_to e _ [] same (quiet d.views i p (after_answer p due q x) old a t refl refl refl)
  step_timed (Applies i q x) e (p, a, leads, free, few, proper, may, same) =
      leads_to e _ (Begins p.place (p.posts + 1) (Asked q) ∷ Ends p.place (p.posts + 1) x ∷ []) same (both_timed d.views i p (after_apply p q x (time d)) old (Asked q) x a t refl refl refl)
  step_timed (Archives i n) e (p, a, leads, same) = leads_to e _ [] same (quiet d.views i p (after_archive p n) old a t refl refl refl)
  step_timed (Changes i c) e (p, a, leads, same) = leads_to e _ [] same (quiet d.views i p (after_change p c) old a t refl refl refl)
  step_timed (HandsOut i) e (p, a, same) = leads_to e _ [] same (quiet d.views i p (after_hand_out p) old a t refl refl refl)
  step_timed (Releases i) e (p, a, leads, same) = leads_to e _ [] same (quiet d.views i p (after_release p) old a t refl refl refl)
  step_timed (ReleasesBy i q x) e (p, a, leads, none, free, few, proper, may, same) =
      leads_to e _ (Begins p.place (p.posts + 1) q ∷ Ends p.place (p.posts + 1) x ∷ []) same (both_timed d.views i p (after_release_by p q x (time d)) old q x a t refl refl refl)
  step_timed (Looks i) e (p, q, a, waits, same) =
      leads_to e _ (told p.place p.posts (told_by (d.control p.place))) same
      (looks_timed i p (after_look p q (d.control p.place) (time d)) a (told_by (d.control p.place)) refl refl refl)
  step_timed (SeesItem i) e (p, q, n, a, waits, own, has, same) = leads_to e _ [] same (quiet d.views i p (after_see p (d.item p.place)) old a t refl refl refl)
  step_timed (TakesItem i) e (p, q, n, a, waits, own, has, same) =
      leads_to e _ (Ends p.place p.posts (answer_with n (d.item p.place)) ∷ []) same
      (ends_timed d.views i p (after_take p q n (d.item p.place) (time d)) old (answer_with n (d.item p.place)) a t refl refl refl)

  still : AreTimed d.views (old ++ [])
  still = subst (AreTimed d.views) (sym (append-nil old)) t

  pub move_timed : (x : Move) (e : Desk) (step : Happens d x e) → AreTimed e.views (old ++ acts_of d x e step)
  move_timed (Deals i) e (k, room, a, inside, same) =
      leads_to e _ [] same
      (snoc_timed (set d.views i (Dealer (k + 1) room)) (Holder (new_pen room k)) (old ++ []) refl
      (λ q f. (let g : new_pen room k ≡ q = cc in subst (IsTimed (old ++ [])) g (new_timed (old ++ []) room k)))
      (plain_timed d.views i (Dealer k room) (Dealer (k + 1) room) (old ++ []) a refl refl
      (λ q f. (let g : Dealer k room ≡ Holder q = f in cc)) (λ q f. (let g : Dealer (k + 1) room ≡ Holder q = f in cc)) still))
  move_timed (Takes x) e step = step_timed x e step
  move_timed (CatchesUp i) e (p, journal, a, lock, same) = leads_to e _ [] same (quiet d.views i p (after_catch_up p journal) old a t refl refl refl)
  move_timed (Writes i) e (p, a, same) =
      leads_to e _ [] same
      (snoc_timed (set d.views i (Holder (after_writing p))) (Note p.known) (old ++ []) refl (λ q f. absurd (let g : Note p.known ≡ Holder q = f in cc))
      (quiet d.views i p (after_writing p) old a t refl refl refl))
  move_timed (Hears i j) e (p, told, a, there, same) =
      let w = after_hearing p told in
      let ne : j ≢ i = λ f. (let g : some (Note told) ≡ some (Holder p) = sym there ∙ (ap (get_elem? d.views) f ∙ a) in cc) in
      leads_to e _ [] same
      (plain_timed (set d.views i (Holder w)) j (Note told) (Note []) (old ++ []) (set_else d.views i j (Holder w) ne ∙ there) refl refl
      (λ q f. (let g : Note told ≡ Holder q = f in cc)) (λ q f. (let g : Note [] ≡ Holder q = f in cc))
      (quiet d.views i p w old a t refl refl refl))
  move_timed (Copies i) e (told, there, same) =
      leads_to e _ [] same
      (snoc_timed (set d.views i (Note told)) (Note told) (old ++ []) refl (λ q f. absurd (let g : Note told ≡ Holder q = f in cc))
      (plain_timed d.views i (Note told) (Note told) (old ++ []) there refl refl
      (λ q f. (let g : Note told ≡ Holder q = f in cc)) (λ q f. (let g : Note told ≡ Holder q = f in cc)) still))
  move_timed (Testifies i) e (p, a, same) =
      leads_to e _ [] same
      (snoc_timed (set d.views i (Holder p)) (Testimony (p ∷ []) 0) (old ++ []) refl (λ q f. absurd (let g : Testimony (p ∷ []) 0 ≡ Holder q = f in cc))
      (subst (λ (vs : List View). AreTimed vs (old ++ [])) (sym (set_again d.views i (Holder p) a)) still))
  move_timed (Retires i) e (p, a, idle, same) =
      let w = after_retiring p in
      leads_to e _ [] same
      (snoc_timed (set d.views i (Holder w)) (Testimony (w ∷ []) 0) (old ++ []) refl (λ q f. absurd (let g : Testimony (w ∷ []) 0 ≡ Holder q = f in cc))
      (quiet d.views i p w old a t refl refl refl))
  move_timed (Sleeps i) e (p, a, idle, same) =
      let w = after_sleeping p in
      leads_to e _ [] same
      (snoc_timed (set d.views i (Holder w)) (Testimony [] 1) (old ++ []) refl (λ q f. absurd (let g : Testimony [] 1 ≡ Holder q = f in cc))
      (quiet d.views i p w old a t refl refl refl))
  move_timed (Wakes i j) e (p, n, a, there, ne, same) =
      let w = after_waking p in
      leads_to e _ [] same
      (plain_timed (set d.views i (Holder w)) j (Testimony [] n) (Testimony [] 0) (old ++ []) (set_else d.views i j (Holder w) ne ∙ there) refl refl
      (λ q f. (let g : Testimony [] n ≡ Holder q = f in cc)) (λ q f. (let g : Testimony [] 0 ≡ Holder q = f in cc))
      (quiet d.views i p w old a t refl refl refl))
  move_timed (Gathers i j) e (pens, more, n, m, a, there, ne, same) =
      let w = Testimony (pens ++ more) (n + m) in
      leads_to e _ [] same
      (plain_timed (set d.views i w) j (Testimony more m) (Testimony [] 0) (old ++ []) (set_else d.views i j w ne ∙ there) refl refl
      (λ q f. (let g : Testimony more m ≡ Holder q = f in cc)) (λ q f. (let g : Testimony [] 0 ≡ Holder q = f in cc))
      (plain_timed d.views i (Testimony pens n) w (old ++ []) a refl refl
      (λ q f. (let g : Testimony pens n ≡ Holder q = f in cc)) (λ q f. (let g : w ≡ Holder q = f in cc)) still))

run_timed : (xs : List Move) (d e : Desk) (old : List Act) → AreTimed d.views old → (run : DealtRun d xs e) → AreTimed e.views (old ++ dealt_history d xs e run)
run_timed [] d e old t run = subst (λ (y : Desk). AreTimed y.views (old ++ [])) (sym run) (subst (AreTimed d.views) (sym (append-nil old)) t)
run_timed (x ∷ xs) d e old t run =
    subst (AreTimed e.views) (append_assoc old (acts_of d x run.0 run.1) (dealt_history run.0 xs e run.2))
    (run_timed xs run.0 e (old ++ acts_of d x run.0 run.1) (move_timed d old t x run.0 run.1) run.2)

pub no_pen : (room j : ℕ) (q : PenState) → get_elem? (Dealer 0 room ∷ []) j ≡ some (Holder q) → ⊥
no_pen room zero q e = let f : Dealer 0 room ≡ Holder q = some-injective (Dealer 0 room) (Holder q) e in cc
no_pen room (suc j) q e = some-ne-none (Holder q) (sym e)

pub starts_timed : (room : ℕ) → AreTimed (Dealer 0 room ∷ []) []
starts_timed room = record { counted = refl; pens = λ j q b. absurd (no_pen room j q b); kept = λ n lt. absurd (omega (arith, lt)) }

pub every_run_is_timed : EveryDealtRunIsTimed
every_run_is_timed places limits moves d run = run_timed moves (dealer_opening places limits) d [] (starts_timed limits.room) run

-- a call that a pen has read is a line of the journal
pub read_line : (journal : List Line) (p : PenState) (room k : ℕ) (b : Call) → Knows room p journal → slice_get p.mine k ≡ Some b → IsLineOf journal p.place b
read_line journal p room k b h at =
    ⊎_elim
    (λ e. calls_are_lines p.place journal p.mine e k b at)
    (λ u.
    calls_are_lines p.place journal (p.mine ++ call u.1 p.posts u.0 u.2 ∷ []) u.4 k b (get_more p.mine (call u.1 p.posts u.0 u.2 ∷ []) k b at))
    h.lines

-- and so the lines of calls follow them
pub times_order_calls : QueueLaws → TimesOrderCalls
times_order_calls laws places limits moves d small run i j p q k l b c end begin a a' at at' ends begins before =
    let z = every_dealt_run_is_linearizable laws places limits moves d small run in
    let t = every_run_is_timed places limits moves d run in
    let m = reached_meet laws places limits d small (moves, run) in
    let same : z.0 ≡ m.0 = one_journal d z.0 m.0 z.1 (clauses_hold d m.0 m.1 m.2).lock in
    let e = (t.pens i p a).ended b.serial end ends in
    let f = (t.pens j q a').begun c.serial begin begins in
    z.2.order p.place q.place b c
    (subst (λ js. IsLineOf js p.place b) (sym same) (read_line m.0 p d.room k b (knows d m.0 m.1 m.2 i p a) at))
    (subst (λ js. IsLineOf js q.place c) (sym same) (read_line m.0 q d.room l c (knows d m.0 m.1 m.2 j q a') at'))
    record { end = end; begin = begin; answer = e.0; operation = f.0; before = before; ends = e.1; begins = f.1 }
