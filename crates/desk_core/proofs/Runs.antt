-- Each step from any desk that meets the rule, the openings, and so all runs.
use Rattle.std.proofs.Common.{◌≡◌, ℕ, suc, zero, ◌+◌, ◌<◌, ◌≤◌, inl, ⊎_elim, true, false, List, [], ◌∷◌, refl, ap, sym, ◌∙◌, subst, arith, add-zero, zero-le}
use Rattle.std.specs.Prelude.{Some, None}
use mathlib.Core.Option.{some, some-ne-none, some-injective}
use lib.ListN.{get_elem?}
use Rattle.pq_types.specs.declared.journal.TheConstants.{GREATEST_NUMBER}
use Rattle.pq_types.specs.Control.{is_answer}
use Rattle.pq_types.specs.History.{Limits}
use Rattle.desk_core.specs.declared.model.PenState.{PenState}
use Rattle.desk_core.specs.declared.model.View.{View}
use Rattle.desk_core.specs.declared.model.View.TheVariants.{Dealer, Holder, Note}
use Rattle.desk_core.specs.Pen.{new_pen}
use Rattle.desk_core.specs.Desk.{Desk, Has, time, volume, pens_from, opening, dealer_opening}
use Rattle.desk_core.specs.Steps.{Event, Drafts, Posts, Tries, Reads, ReadsItem, LaysItem, Answers, Applies, Archives, Changes, HandsOut, Releases, ReleasesBy, Looks, SeesItem, TakesItem, Step, Run}
use Rattle.desk_core.specs.Rule.{PenRule, fresh, MeetsRule, OpeningsMeetRule, EveryRunMeetsRule, EveryStepKeepsRule}
use Rattle.desk_core.proofs.Journals.{QueueLaws}
use Rattle.desk_core.proofs.StepFacts.{draft_keeps, post_keeps, lead_keeps, miss_keeps, read_keeps, read_item_keeps, lay_keeps, answer_keeps, apply_keeps, archive_keeps, change_keeps, hand_out_keeps, release_keeps, release_by_keeps, look_keeps, see_keeps, take_keeps}

step_keeps : QueueLaws → (d : Desk) (x : Event) (e : Desk) → MeetsRule d → Step d x e → MeetsRule e
step_keeps laws d (Drafts i x) e m (p, a, free, item, same) = subst MeetsRule (sym same) (m.0, m.1, draft_keeps d m.0 m.1 m.2 i p a x free)
step_keeps laws d (Posts i q) e m (p, draft, a, free, few, proper, drafted, same) = subst MeetsRule (sym same) (m.0, m.1, post_keeps d m.0 m.1 m.2 i p a (time d) q draft free few proper drafted)
step_keeps laws d (Tries i) e m (p, a, t) =
    ⊎_elim
    (λ u. subst MeetsRule (sym u.1.2) (m.0, i, lead_keeps d m.0 m.1 m.2 i p a u.1.0 u.0 u.1.1))
    (λ u. subst MeetsRule (sym u.1) (m.0, m.1, miss_keeps d m.0 m.1 m.2 i p a))
    t
step_keeps laws d (Reads i k) e m (p, a, leads, inside, same) = subst MeetsRule (sym same) (m.0, m.1, read_keeps d m.0 m.1 m.2 i p a k leads)
step_keeps laws d (ReadsItem i) e m (p, due, a, leads, is_due, push, same) = subst MeetsRule (sym same) (m.0, m.1, read_item_keeps d m.0 m.1 m.2 i p a due is_due)
step_keeps laws d (LaysItem i x) e m (p, due, a, leads, is_due, plain, item, same) = subst MeetsRule (sym same) (m.0, m.1, lay_keeps d m.0 m.1 m.2 i p a due x is_due plain)
step_keeps laws d (Answers i x) e m (p, due, q, a, leads, is_due, is_kind, known, laid, may, same) =
    subst MeetsRule (sym same) (_, m.1, answer_keeps d m.0 m.1 m.2 i p a laws due q x is_due is_kind known laid may)
step_keeps laws d (Applies i q x) e m (p, a, leads, free, few, proper, may, same) =
    subst MeetsRule (sym same) (_, m.1, apply_keeps d m.0 m.1 m.2 i p a (time d) laws q x leads free few proper may)
step_keeps laws d (Archives i n) e m (p, a, leads, same) = subst MeetsRule (sym same) (m.0, m.1, archive_keeps d m.0 m.1 m.2 i p a n)
step_keeps laws d (Changes i c) e m (p, a, leads, same) = subst MeetsRule (sym same) (m.0, m.1, change_keeps d m.0 m.1 m.2 i p a c)
step_keeps laws d (HandsOut i) e m (p, a, same) = subst MeetsRule (sym same) (m.0, m.1, hand_out_keeps d m.0 m.1 m.2 i p a)
step_keeps laws d (Releases i) e m (p, a, leads, same) = subst MeetsRule (sym same) (m.0, m.1, release_keeps d m.0 m.1 m.2 i p a leads)
step_keeps laws d (ReleasesBy i q x) e m (p, a, leads, none, free, few, proper, may, same) =
    subst MeetsRule (sym same) (_, m.1, release_by_keeps d m.0 m.1 m.2 i p a (time d) laws q x leads none free few proper may)
step_keeps laws d (Looks i) e m (p, q, a, waits, same) = subst MeetsRule (sym same) (m.0, m.1, look_keeps d m.0 m.1 m.2 i p a (time d) q waits)
step_keeps laws d (SeesItem i) e m (p, q, n, a, waits, own, has, same) = subst MeetsRule (sym same) (m.0, m.1, see_keeps d m.0 m.1 m.2 i p a q waits (ap is_answer own))
step_keeps laws d (TakesItem i) e m (p, q, n, a, waits, own, has, same) = subst MeetsRule (sym same) (m.0, m.1, take_keeps d m.0 m.1 m.2 i p a (time d) q n waits own)

pub steps_keep : QueueLaws → EveryStepKeepsRule
steps_keep laws d e x m step = step_keeps laws d x e m step

run_keeps : QueueLaws → (d : Desk) (xs : List Event) (e : Desk) → MeetsRule d → Run d xs e → MeetsRule e
run_keeps laws d [] e m r = subst MeetsRule (sym r) m
run_keeps laws d (x ∷ xs) e m r = run_keeps laws r.0 xs e (step_keeps laws d x r.0 m r.1) r.2

-- what stands at a seat of the opening
pen_at : (room n k i : ℕ) (v : View) → get_elem? (pens_from room n k) i ≡ some v → (v ≡ Holder (new_pen room (k + i))) × (i < n)
pen_at room zero k i v e = absurd (some-ne-none v (sym e))
pen_at room (suc n) k zero v e = (sym (some-injective (Holder (new_pen room k)) v e) ∙ ap (λ (j : ℕ). Holder (new_pen room j)) (sym (add-zero k)), omega arith)
pen_at room (suc n) k (suc i) v e =
    let t = pen_at room n (k + 1) i v e in
    let f : k + 1 + i ≡ k + suc i = omega arith in
    (t.0 ∙ ap (λ (j : ℕ). Holder (new_pen room j)) f, let lt = t.1 in omega arith)

opening_meets : (places : ℕ) (limits : Limits) → limits.room ≤ GREATEST_NUMBER → MeetsRule (opening places limits)
opening_meets places limits small =
    let room = limits.room in
    let views = pens_from room places 0 in
    let one : (i : ℕ) (p : PenState) → Has views i p → (p ≡ new_pen room i) × (i < places) =
    λ i p a. (let t = pen_at room places 0 i (Holder p) a in let e : 0 + i ≡ i = omega arith in (let f : Holder p ≡ Holder (new_pen room (0 + i)) = t.0 in let g : p ≡ new_pen room (0 + i) = cc in g ∙ ap (new_pen room) e, t.1)) in (
      [],
      0,
      record {
        room_in_range = small;
        lock = inl (refl, record { book = volume limits []; is = refl; room_is = refl; journal_is = refl });
        led = λ i p a l. absurd (let e : false ≡ true = ap (λ (v : PenState). v.leading) (sym (one i p a).0) ∙ l in cc);
        due = λ i p a due e. absurd (let f : None ≡ Some due = ap (λ (v : PenState). v.due) (sym (one i p a).0) ∙ e in cc);
        seated = record {
          inside = λ i p a. (let t = one i p a in subst (λ k. k < places) (sym (ap (λ (v : PenState). v.place) t.0)) t.1);
          apart = λ i j p q a b e. (sym (ap (λ (v : PenState). v.place) (one i p a).0) ∙ (e ∙ ap (λ (v : PenState). v.place) (one j q b).0));
          owned = λ k ne. absurd (ne refl);
        };
        dealers = λ i m u e. absurd (let t = pen_at room places 0 i (Dealer m u) e in let f : Dealer m u ≡ Holder (new_pen room (0 + i)) = t.0 in cc);
        lawful = record { legal = tt; rise = tt; heeds = tt; within = zero-le; items = tt };
        pens = λ i p a.
            subst (λ (v : PenState). PenRule room [] ((opening places limits).control v.place) ((opening places limits).item v.place) v) (sym (one i p a).0)
            record {
              told = refl;
              counted = omega arith;
              stands = fresh None refl tt refl refl;
              looked = tt;
              known = ([], refl);
              own = λ h. absurd (let e : false ≡ true = h in cc);
              blank = λ _. refl;
              filled = λ h. absurd (let e : false ≡ true = h in cc);
              barred = λ h. absurd (let e : false ≡ true = h in cc);
              seen = λ x e. absurd (let f : None ≡ Some x = e in cc);
            };
        notes = λ i told e. absurd (let t = pen_at room places 0 i (Note told) e in let f : Note told ≡ Holder (new_pen room (0 + i)) = t.0 in cc);
      },
    )

-- a dealer stands at the first seat, and nobody else
only_dealer : (room i : ℕ) (v : View) → get_elem? (Dealer 0 room ∷ []) i ≡ some v → (Dealer 0 room ≡ v) × (i ≡ 0)
only_dealer room zero v e = (some-injective (Dealer 0 room) v e, refl)
only_dealer room (suc i) v e = absurd (some-ne-none v (sym e))

dealer_meets : (places : ℕ) (limits : Limits) → limits.room ≤ GREATEST_NUMBER → MeetsRule (dealer_opening places limits)
dealer_meets places limits small =
    let room = limits.room in
    let nobody : (i : ℕ) (p : PenState) → Has (Dealer 0 room ∷ []) i p → ⊥ = λ i p a. (let t = only_dealer room i (Holder p) a in let e : Dealer 0 room ≡ Holder p = t.0 in cc) in (
      [],
      0,
      record {
        room_in_range = small;
        lock = inl (refl, record { book = volume limits []; is = refl; room_is = refl; journal_is = refl });
        led = λ i p a l. absurd (nobody i p a);
        due = λ i p a due e. absurd (nobody i p a);
        seated = record {
          inside = λ i p a. absurd (nobody i p a);
          apart = λ i j p q a b e. absurd (nobody i p a);
          owned = λ k ne. absurd (ne refl);
        };
        dealers = λ i n u e.
            (let t = only_dealer room i (Dealer n u) e in
            let f : Dealer 0 room ≡ Dealer n u = t.0 in
            let g : room ≡ u = cc in (
              sym g,
              record { first = t.1; pens = λ j p a. absurd (nobody j p a); lines = λ k le. refl },
            ));
        lawful = record { legal = tt; rise = tt; heeds = tt; within = zero-le; items = tt };
        pens = λ i p a. absurd (nobody i p a);
        notes = λ i told e. absurd (let t = only_dealer room i (Note told) e in let f : Dealer 0 room ≡ Note told = t.0 in cc);
      },
    )

pub openings_meet : OpeningsMeetRule
openings_meet = record { pens = opening_meets; dealer = dealer_meets }

pub runs_meet : QueueLaws → EveryRunMeetsRule
runs_meet laws places limits events d small r = run_keeps laws (opening places limits) events d (opening_meets places limits small) r
