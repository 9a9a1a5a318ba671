-- Each step of the desk is that of one pen, and stores in one cell at most.
use Rattle.std.proofs.Common.{◌≡◌, ℕ, ◌+◌, ◌≤◌, ⊎_elim, List, set, refl, ap, sym, ◌∙◌, subst, arith}
use Rattle.atomic_table.proofs.Lists.{set_else}
use Rattle.pq_types.specs.Item.{Item}
use Rattle.pq_types.specs.declared.control.Control.{Control}
use Rattle.pq_types.specs.Control.{posted, answered}
use Rattle.desk_core.specs.Desk.{Desk, Has}
use Rattle.desk_core.specs.Steps.{Drafts, Posts, Tries, Reads, ReadsItem, LaysItem, Answers, Applies, Archives, Changes, HandsOut, Releases, ReleasesBy, Looks, SeesItem, TakesItem}
use Rattle.desk_core.specs.Acting.{OneStore, in_lock, in_control, in_item, OneActs, EachStepIsOnePens}
use Rattle.desk_core.specs.declared.model.PenState.{PenState}
use Rattle.desk_core.specs.declared.model.View.{View}
use Rattle.desk_core.specs.declared.model.View.TheVariants.{Holder}
use Rattle.desk_core.proofs.Records.{put_else}
use Rattle.desk_core.proofs.Views.{has_here, has_else}

-- from d to the desk m, in which the pen p at the seat has become w
acts : (d d' m : Desk) (seat : ℕ) (p w : PenState) → Has d.views seat p → d' ≡ m → m.views ≡ set d.views seat (Holder w) → m.room ≡ d.room
    → m.places ≡ d.places → OneStore d m
    → w.place ≡ p.place → p.posts ≤ w.posts → w.steps ≡ p.steps + 1 → OneActs d d' seat
acts d d' m seat p w a same views room places store place posts steps =
    let now : d'.views ≡ set d.views seat (Holder w) = ap (λ (x : Desk). x.views) same ∙ views in
    record {
      before = p;
      after = w;
      was = a;
      is = subst (λ (vs : List View). Has vs seat w) (sym now) (has_here d.views seat p w a);
      place = place;
      posts = posts;
      steps = steps;
      others = λ j q ne. (λ h. sym (set_else d.views seat j (Holder w) ne) ∙ subst (λ (vs : List View). Has vs j q) now h, λ h. subst (λ (vs : List View). Has vs j q) (sym now) (has_else d.views seat j w q ne h));
      store = subst (OneStore d) (sym same) store;
      room = ap (λ (x : Desk). x.room) same ∙ room;
      places = ap (λ (x : Desk). x.places) same ∙ places;
    }

-- nothing but the lock, or nothing at all
no_cell : (d m : Desk) → m.control ≡ d.control → m.item ≡ d.item → OneStore d m
no_cell d m control item = in_lock (λ k. ap (λ (f : ℕ → Control). f k) control) (λ k. ap (λ (f : ℕ → Item). f k) item)

pub each_step_is_one_pens : EachStepIsOnePens
each_step_is_one_pens d d' (Drafts i x) (p, a, free, item, same) =
    acts d d' _ i p _ a same refl refl refl (in_item p.place (refl, refl) (λ k. refl) (λ k ne. put_else d.item p.place x k ne)) refl (omega arith) refl
each_step_is_one_pens d d' (Posts i q) (p, draft, a, free, few, proper, drafted, same) =
    acts d d' _ i p _ a same refl refl refl (in_control p.place (refl, refl) (λ k ne. put_else d.control p.place (posted (p.posts + 1) q) k ne) (λ k. refl)) refl (omega arith) refl
each_step_is_one_pens d d' (Tries i) (p, a, t) =
    ⊎_elim
    (λ u. acts d d' _ i p _ a u.1.2 refl refl refl (no_cell d _ refl refl) refl (omega arith) refl)
    (λ u. acts d d' _ i p _ a u.1 refl refl refl (no_cell d _ refl refl) refl (omega arith) refl)
    t
each_step_is_one_pens d d' (Reads i k) (p, a, leads, inside, same) = acts d d' _ i p _ a same refl refl refl (no_cell d _ refl refl) refl (omega arith) refl
each_step_is_one_pens d d' (ReadsItem i) (p, due, a, leads, is_due, push, same) = acts d d' _ i p _ a same refl refl refl (no_cell d _ refl refl) refl (omega arith) refl
each_step_is_one_pens d d' (LaysItem i x) (p, due, a, leads, is_due, plain, item, same) =
    acts d d' _ i p _ a same refl refl refl (in_item due.place (refl, refl) (λ k. refl) (λ k ne. put_else d.item due.place x k ne)) refl (omega arith) refl
each_step_is_one_pens d d' (Answers i x) (p, due, q, a, leads, is_due, is_kind, known, laid, may, same) =
    acts d d' _ i p _ a same refl refl refl (in_control due.place (refl, refl) (λ k ne. put_else d.control due.place (answered x) k ne) (λ k. refl)) refl (omega arith) refl
each_step_is_one_pens d d' (Applies i q x) (p, a, leads, free, few, proper, may, same) = acts d d' _ i p _ a same refl refl refl (no_cell d _ refl refl) refl (omega arith) refl
each_step_is_one_pens d d' (Archives i n) (p, a, leads, same) = acts d d' _ i p _ a same refl refl refl (no_cell d _ refl refl) refl (omega arith) refl
each_step_is_one_pens d d' (Changes i c) (p, a, leads, same) = acts d d' _ i p _ a same refl refl refl (no_cell d _ refl refl) refl (omega arith) refl
each_step_is_one_pens d d' (HandsOut i) (p, a, same) = acts d d' _ i p _ a same refl refl refl (no_cell d _ refl refl) refl (omega arith) refl
each_step_is_one_pens d d' (Releases i) (p, a, leads, same) = acts d d' _ i p _ a same refl refl refl (no_cell d _ refl refl) refl (omega arith) refl
each_step_is_one_pens d d' (ReleasesBy i q x) (p, a, leads, none, free, few, proper, may, same) = acts d d' _ i p _ a same refl refl refl (no_cell d _ refl refl) refl (omega arith) refl
each_step_is_one_pens d d' (Looks i) (p, q, a, waits, same) = acts d d' _ i p _ a same refl refl refl (no_cell d _ refl refl) refl (omega arith) refl
each_step_is_one_pens d d' (SeesItem i) (p, q, n, a, waits, own, has, same) = acts d d' _ i p _ a same refl refl refl (no_cell d _ refl refl) refl (omega arith) refl
each_step_is_one_pens d d' (TakesItem i) (p, q, n, a, waits, own, has, same) = acts d d' _ i p _ a same refl refl refl (no_cell d _ refl refl) refl (omega arith) refl
