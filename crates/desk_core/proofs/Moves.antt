-- What a step does to posts and answers: none is taken back.
use Rattle.std.proofs.Common.{◌≡◌, ◌≢◌, ℕ, ◌+◌, ◌<◌, ◌≤◌, inl, inr, ⊎_elim, Bool, true, false, set, refl, ap, sym, ◌∙◌, subst, arith}
use Rattle.std.specs.Prelude.{Option, None}
use mathlib.Core.Logic.{dite}
use native.Mathlib.Decide.{ℕ_discrete}
use Rattle.pq_types.specs.Item.{Item}
use Rattle.pq_types.specs.declared.control.Control.{Control}
use Rattle.pq_types.specs.Control.{posted, answered, is_answer}
use Rattle.pq_book.specs.Book.{Volume}
use Rattle.desk_core.specs.declared.model.PenState.{PenState}
use Rattle.desk_core.specs.declared.model.View.TheVariants.{Holder}
use Rattle.desk_core.specs.Pen.{IsIdle, after_draft, after_post, after_lead, after_miss, after_read, after_read_item, after_lay, after_answer, after_apply, after_archive, after_change, after_hand_out, after_release, after_release_by, after_look, after_see, after_take}
use Rattle.desk_core.specs.Desk.{Desk, time, Has, put}
use Rattle.desk_core.specs.Steps.{Event, Drafts, Posts, Tries, Reads, ReadsItem, LaysItem, Answers, Applies, Archives, Changes, HandsOut, Releases, ReleasesBy, Looks, SeesItem, TakesItem, actor, Step}
use Rattle.desk_core.specs.Rule.{MeetsRule}
use Rattle.desk_core.specs.Leads.{HasPosted, IsAnswered, HasAnswer, AnswersStay}
use Rattle.desk_core.proofs.Records.{put_else, no_post}
use Rattle.desk_core.proofs.Views.{becomes, has_here, has_else, same_pen}
use Rattle.desk_core.proofs.Stand.{not_idle}

-- The step of the pen at this seat: its pen before and after. It keeps its place, loses no post,
-- and takes no other pen's answer away; what was answered of it stays answered.
pub record Moved (d d' : Desk) (seat : ℕ) : Type 0 where
  pub before : PenState
  pub after : PenState
  pub has : Has d.views seat before
  pub views : d'.views ≡ set d.views seat (Holder after)
  pub place : after.place ≡ before.place
  pub posts : before.posts ≤ after.posts
  pub others : (place : ℕ) → place ≢ before.place → is_answer (d.control place) ≡ true → is_answer (d'.control place) ≡ true
  pub own : (serial : ℕ) → serial ≤ before.posts → IsAnswered d before serial → IsAnswered d' after serial

-- a step that is no post, and takes no answer away
still : (d : Desk) (held : Bool) (control : ℕ → Control) (item : ℕ → Item) (home : Option Volume) (seat : ℕ) (p w : PenState) → Has d.views seat p
    → w.place ≡ p.place → w.posts ≡ p.posts → (IsIdle p.standing → IsIdle w.standing)
    → ((place : ℕ) → is_answer (d.control place) ≡ true → is_answer (control place) ≡ true) → Moved d (becomes d held control item home seat w) seat
still d held control item home seat p w a place posts free stay =
    record {
      before = p;
      after = w;
      has = a;
      views = refl;
      place = place;
      posts = omega (arith, posts);
      others = λ n ne h. stay n h;
      own = λ serial le h.
          ⊎_elim
          (λ t. inl (subst (λ n. serial < n) (sym posts) t))
          (λ t. inr (⊎_elim (λ u. inl (free u)) (λ u. inr (subst (λ n. is_answer (control n) ≡ true) (sym place) (stay p.place u))) t))
          h;
    }

-- a step that stores in no control, and leaves the pen idle if it was
same_controls : (d : Desk) (held : Bool) (item : ℕ → Item) (home : Option Volume) (seat : ℕ) (p w : PenState) → Has d.views seat p → w.place ≡ p.place
    → w.posts ≡ p.posts → (IsIdle p.standing → IsIdle w.standing)
    → Moved d (becomes d held d.control item home seat w) seat
same_controls d held item home seat p w a place posts free = still d held d.control item home seat p w a place posts free (λ k h. h)

pub moves : (d : Desk) (x : Event) (e : Desk) → MeetsRule d → Step d x e → Moved d e (actor x)
moves d (Drafts i x) e m (p, a, free, item, same) =
    subst (λ y. Moved d y i) (sym same) (same_controls d d.held (put d.item p.place x) d.home i p (after_draft p x) a refl refl (λ f. (_, refl)))
moves d (Posts i q) e m (p, draft, a, free, few, proper, drafted, same) =
    let c = posted (p.posts + 1) q in
    subst (λ y. Moved d y i) (sym same) record {
      before = p;
      after = after_post p q (time d);
      has = a;
      views = refl;
      place = refl;
      posts = omega arith;
      others = λ k ne h. ap is_answer (put_else d.control p.place c k ne) ∙ h;
      own = λ serial le h. inl (omega (arith, le));
    }
moves d (Tries i) e m (p, a, t) =
    ⊎_elim
    (λ u. subst (λ y. Moved d y i) (sym u.1.2) (same_controls d true d.item None i p (after_lead p u.1.0) a refl refl (λ f. f)))
    (λ u. subst (λ y. Moved d y i) (sym u.1) (same_controls d d.held d.item d.home i p (after_miss p) a refl refl (λ f. f)))
    t
moves d (Reads i k) e m (p, a, leads, inside, same) =
    subst (λ y. Moved d y i) (sym same) (same_controls d d.held d.item d.home i p (after_read p k (d.control k)) a refl refl (λ f. f))
moves d (ReadsItem i) e m (p, due, a, leads, is_due, push, same) =
    subst (λ y. Moved d y i) (sym same) (same_controls d d.held d.item d.home i p (after_read_item p due (d.item due.place)) a refl refl (λ f. f))
moves d (LaysItem i x) e m (p, due, a, leads, is_due, plain, item, same) =
    subst (λ y. Moved d y i) (sym same) (same_controls d d.held (put d.item due.place x) d.home i p (after_lay p due x) a refl refl (λ f. f))
moves d (Answers i x) e m (p, due, q, a, leads, is_due, is_kind, known, laid, may, same) =
    let k = due.place in
    let stay : (j : ℕ) → is_answer (d.control j) ≡ true → is_answer (put d.control k (answered x) j) ≡ true =
    λ j h.
    (dite (ℕ_discrete j k)
    (λ f. absurd (no_post (d.control k) due.serial due.kind (m.2.due i p a due is_due).1 (ap is_answer (ap d.control (sym f)) ∙ h)))
    (λ ne. ap is_answer (put_else d.control k (answered x) j ne) ∙ h)) in
    subst (λ y. Moved d y i) (sym same) (still d d.held (put d.control k (answered x)) d.item d.home i p (after_answer p due q x) a refl refl (λ f. f) stay)
moves d (Applies i q x) e m (p, a, leads, free, few, proper, may, same) =
    subst (λ y. Moved d y i) (sym same) record {
      before = p;
      after = after_apply p q x (time d);
      has = a;
      views = refl;
      place = refl;
      posts = omega arith;
      others = λ k ne h. h;
      own = λ serial le h. inl (omega (arith, le));
    }
moves d (Archives i n) e m (p, a, leads, same) =
    subst (λ y. Moved d y i) (sym same) (same_controls d d.held d.item d.home i p (after_archive p n) a refl refl (λ f. f))
moves d (Changes i c) e m (p, a, leads, same) =
    subst (λ y. Moved d y i) (sym same) (same_controls d d.held d.item d.home i p (after_change p c) a refl refl (λ f. f))
moves d (HandsOut i) e m (p, a, same) =
    subst (λ y. Moved d y i) (sym same) (same_controls d d.held d.item d.home i p (after_hand_out p) a refl refl (λ f. f))
moves d (Releases i) e m (p, a, leads, same) =
    subst (λ y. Moved d y i) (sym same) (same_controls d false d.item _ i p (after_release p) a refl refl (λ f. f))
moves d (ReleasesBy i q x) e m (p, a, leads, none, free, few, proper, may, same) =
    subst (λ y. Moved d y i) (sym same) record {
      before = p;
      after = after_release_by p q x (time d);
      has = a;
      views = refl;
      place = refl;
      posts = omega arith;
      others = λ k ne h. h;
      own = λ serial le h. inl (omega (arith, le));
    }
moves d (Looks i) e m (p, q, a, waits, same) =
    subst (λ y. Moved d y i) (sym same) (same_controls d d.held d.item d.home i p (after_look p q (d.control p.place) (time d)) a refl refl (λ f. absurd (not_idle p.standing q waits f)))
moves d (SeesItem i) e m (p, q, n, a, waits, own, has, same) =
    subst (λ y. Moved d y i) (sym same) (same_controls d d.held d.item d.home i p (after_see p (d.item p.place)) a refl refl (λ f. f))
moves d (TakesItem i) e m (p, q, n, a, waits, own, has, same) =
    subst (λ y. Moved d y i) (sym same) (same_controls d d.held d.item d.home i p (after_take p q n (d.item p.place) (time d)) a refl refl (λ f. (None, refl)))

-- each pen but the acting one is as it was
pub others_stay : (d e : Desk) (seat j : ℕ) (q : PenState) → Moved d e seat → j ≢ seat → Has d.views j q → Has e.views j q
others_stay d e seat j q v ne b = subst (λ vs. Has vs j q) (sym v.views) (has_else d.views seat j v.after q ne b)

pub acts_after : (d e : Desk) (seat : ℕ) (v : Moved d e seat) → Has e.views seat v.after
acts_after d e seat v = subst (λ vs. Has vs seat v.after) (sym v.views) (has_here d.views seat v.before v.after v.has)

-- posts are never taken back
pub posted_stays : (d e : Desk) (seat place serial : ℕ) → Moved d e seat → HasPosted d place serial → HasPosted e place serial
posted_stays d e seat place serial v (positive, (j, q, b, at, le)) = (
  positive,
  dite (ℕ_discrete j seat)
      (λ f.
      (let g : v.before ≡ q = same_pen d.views seat v.before q v.has (subst (λ n. Has d.views n q) f b) in
      let le' : serial ≤ v.before.posts = subst (λ (y : PenState). serial ≤ y.posts) (sym g) le in
      (seat, v.after, acts_after d e seat v, v.place ∙ (ap (λ (y : PenState). y.place) g ∙ at), omega (arith, v.posts, le'))))
      (λ ne. (j, q, others_stay d e seat j q v ne b, at, le)),
)

-- an answer stays
pub answered_stays : (d e : Desk) (seat place serial : ℕ) → MeetsRule d → Moved d e seat → HasAnswer d place serial → HasAnswer e place serial
answered_stays d e seat place serial m v (j, q, b, at, le, h) =
    dite (ℕ_discrete j seat)
    (λ f.
    (let g : v.before ≡ q = same_pen d.views seat v.before q v.has (subst (λ n. Has d.views n q) f b) in
    let le' : serial ≤ v.before.posts = subst (λ (y : PenState). serial ≤ y.posts) (sym g) le in
    (seat, v.after, acts_after d e seat v, v.place ∙ (ap (λ (y : PenState). y.place) g ∙ at), omega (arith, v.posts, le'), v.own serial le' (subst (λ y. IsAnswered d y serial) (sym g) h))))
    (λ ne. (
      j,
      q,
      others_stay d e seat j q v ne b,
      at,
      le,
      ⊎_elim (λ t. inl t) (λ t. inr (⊎_elim (λ u. inl u) (λ u. inr (v.others q.place (λ same. ne (m.2.seated.apart j seat q v.before b v.has same)) u)) t)) h,
    ))

pub answers_stay : AnswersStay
answers_stay d e x place serial m step h = answered_stays d e (actor x) place serial m (moves d x e m step) h
