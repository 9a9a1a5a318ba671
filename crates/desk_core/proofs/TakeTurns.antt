-- The calls of each place take turns.
use Rattle.std.proofs.Common.{◌≡◌, ◌≢◌, ℕ, ◌+◌, ◌<◌, ◌≤◌, ⊎_elim, Bool, true, false, List, [], ◌∷◌, ◌++◌, set, refl, ap, sym, ◌∙◌, subst, arith}
use Rattle.std.specs.Prelude.{Option, Some, None}
use mathlib.Core.Option.{some}
use lib.ListN.{get_elem?}
use Rattle.pq_types.specs.Asked.{Request}
use Rattle.pq_types.specs.Asked.{Answer}
use Rattle.pq_types.specs.Asked.{Line}
use Rattle.desk_core.specs.Pen.{IsIdle, told_by, standing_told, after_draft, after_post, after_lead, after_miss, after_read, after_read_item, after_lay, after_answer, after_apply, after_archive, after_change, after_hand_out, after_release, after_release_by, after_look, after_see, after_take}
use Rattle.desk_core.specs.Desk.{Desk, time, Has, put}
use Rattle.desk_core.specs.Steps.{Event, Drafts, Posts, Tries, Reads, ReadsItem, LaysItem, Answers, Applies, Archives, Changes, HandsOut, Releases, ReleasesBy, Looks, SeesItem, TakesItem, Step}
use Rattle.desk_core.specs.Rule.{MeetsRule}
use Rattle.desk_core.specs.Notes.{after_catch_up, after_writing, after_hearing}
use Rattle.desk_core.specs.Linearizable.{Act, TakeTurns, told, acts}
use Rattle.desk_core.specs.Dealing.{Move, Deals, Takes, CatchesUp, Writes, Hears, Copies, Testifies, Retires, Sleeps, Wakes, Gathers, DealsPen, Happens, DealtRun, acts_of, dealt_history}
use Rattle.desk_core.specs.declared.model.Standing.TheVariants.{Idle, Waiting}
use Rattle.desk_core.specs.declared.model.Duty.{Duty}
use Rattle.desk_core.specs.declared.model.Duty.TheVariants.{Asleep, Retired}
use Rattle.desk_core.specs.declared.model.PenState.{PenState}
use Rattle.desk_core.specs.declared.model.View.{View}
use Rattle.desk_core.specs.declared.model.View.TheVariants.{Dealer, Holder, Note, Testimony}
use Rattle.desk_core.proofs.Journals.{QueueLaws}
use Rattle.desk_core.proofs.Records.{put_here, put_else}
use Rattle.desk_core.proofs.Views.{each_after, dealer_else}
use Rattle.desk_core.proofs.Stand.{not_idle}
use Rattle.desk_core.specs.Testimonies.{after_retiring, after_sleeping, after_waking}
use Rattle.desk_core.proofs.Notes.{OnlyKnow, only_keeps, caught_up_at, written, heard, copied, testified, set_aside, woken, gathered, writing_keeps, hearing_keeps, copying_keeps}
use Rattle.desk_core.proofs.Runs.{steps_keep}
use Rattle.desk_core.proofs.Splits.{each_dealt, dealer_dealt, dealing_keeps}

-- the pen has used the last serial of its place, and waits exactly where its call is under way
record FitsPen (last : ℕ → ℕ) (open_at : ℕ → Bool) (p : PenState) : Type 0 where
  used : last p.place ≤ p.posts
  free : IsIdle p.standing → open_at p.place ≡ false
  busy : (q : Request) → p.standing ≡ Waiting q → (open_at p.place ≡ true) × (last p.place ≡ p.posts)

-- so it does, whatever it knows
fits_still : {last : ℕ → ℕ} {open_at : ℕ → Bool} → (p : PenState) (knew : List Line) (count : ℕ) (duty : Duty) → FitsPen last open_at p
    → FitsPen last open_at (record p { known = knew; steps = count; duty = duty })
fits_still p knew count duty f = record { used = f.used; free = f.free; busy = f.busy }

-- no call was made at a place whose pen is still to come
abbrev Unused : Desk → (ℕ → ℕ) → (ℕ → Bool) → Type 0
Unused d last open_at = (i next known : ℕ) → get_elem? d.views i ≡ some (Dealer next known) → (k : ℕ) → next ≤ k → (last k ≡ 0) × (open_at k ≡ false)

abbrev Fits : Desk → (ℕ → ℕ) → (ℕ → Bool) → Type 0
Fits d last open_at = ((i : ℕ) (p : PenState) → Has d.views i p → FitsPen last open_at p) × Unused d last open_at

-- it begins
begun : (last : ℕ → ℕ) (open_at : ℕ → Bool) (w : PenState) (q : Request) → w.standing ≡ Waiting q
    → FitsPen (put last w.place w.posts) (put open_at w.place true) w
begun last open_at w q waits =
    let here : put last w.place w.posts w.place ≡ w.posts = put_here last w.place w.posts in
    record {
      used = omega (arith, here);
      free = λ u. absurd (not_idle w.standing q waits u);
      busy = λ q' u. (put_here open_at w.place true, here);
    }

idle_only : (w : PenState) (q : Request) → IsIdle w.standing → w.standing ≡ Waiting q → ⊥
idle_only w q u v = not_idle w.standing q v u

-- it ends
over : (last : ℕ → ℕ) (open_at : ℕ → Bool) (w : PenState) → last w.place ≤ w.posts → IsIdle w.standing → FitsPen last (put open_at w.place false) w
over last open_at w le u =
    record { used = le; free = λ _. put_here open_at w.place false; busy = λ q v. absurd (idle_only w q u v) }

module _ (d : Desk) (rule : MeetsRule d) (last : ℕ → ℕ) (open_at : ℕ → Bool) (fits : Fits d last open_at) (more : List Act) where
  -- what is behind a step goes on from what fits then
  abbrev Next : Desk → Type 0
  Next e = (last' : ℕ → ℕ) (open' : ℕ → Bool) → Fits e last' open' → TakeTurns last' open' more

  others : (e : Desk) (i : ℕ) (p w : PenState) → Has d.views i p → e.views ≡ set d.views i (Holder w) → (last' : ℕ → ℕ) (open' : ℕ → Bool)
      → ((k : ℕ) → k ≢ p.place → (last' k ≡ last k) × (open' k ≡ open_at k)) → FitsPen last' open' w → Fits e last' open'
  others e i p w a views last' open' same new = (
    λ j v b.
        each_after d.views i w (λ _ y. FitsPen last' open' y) new
        (λ k y ne c.
        (let o = fits.0 k y c in
        let t = same y.place (λ at. ne (rule.2.seated.apart k i y p c a at)) in
        let used = o.used in
        let f = t.0 in
        record {
          used = omega (arith, used, f);
          free = λ u. t.1 ∙ o.free u;
          busy = λ q u. (let z = o.busy q u in (t.1 ∙ z.0, t.0 ∙ z.1));
        }))
        j v (subst (λ vs. Has vs j v) views b),
    λ j n m c k le.
        (let f = dealer_else d.views i j n m w (subst (λ vs. get_elem? vs j ≡ some (Dealer n m)) views c) in
        let lt : p.place < n = (rule.2.dealers j n m f).1.pens i p a in
        let t = same k (λ e. omega (arith, e, le, lt)) in
        let z = fits.1 j n m f k le in (t.0 ∙ z.0, t.1 ∙ z.1)),
  )

  -- a step in which the pen as one who asks stays as it was
  stays : (e : Desk) (i : ℕ) (p w : PenState) → Has d.views i p → e.views ≡ set d.views i (Holder w) → w.place ≡ p.place → w.posts ≡ p.posts
      → w.standing ≡ p.standing → Next e → TakeTurns last open_at more
  stays e i p w a views place posts standing next =
      let o = fits.0 i p a in
      let used = o.used in
      let f : last w.place ≡ last p.place = ap last place in
      next last open_at
      (others e i p w a views last open_at (λ k ne. (refl, refl))
      record {
        used = omega (arith, used, posts, f);
        free = λ u. ap open_at place ∙ o.free (subst IsIdle standing u);
        busy = λ q u. (let z = o.busy q (sym standing ∙ u) in (ap open_at place ∙ z.0, f ∙ (z.1 ∙ sym posts)));
      })

  looks : (e : Desk) (i : ℕ) (p w : PenState) (q : Request) → Has d.views i p → p.standing ≡ Waiting q → e.views ≡ set d.views i (Holder w)
      → w.place ≡ p.place → w.posts ≡ p.posts → (o : Option Answer) → w.standing ≡ standing_told q o → Next e
      → TakeTurns last open_at (told p.place p.posts o ++ more)
  looks e i p w q a waits views place posts None standing next = stays e i p w a views place posts (standing ∙ sym waits) next
  looks e i p w q a waits views place posts (Some x) standing next =
      let o = fits.0 i p a in
      let z = o.busy q waits in
      let used = o.used in
      let f : last w.place ≡ last p.place = ap last place in (
        z.0,
        z.1,
        next last (put open_at p.place false)
            (others e i p w a views last (put open_at p.place false) (λ k ne. (refl, put_else open_at p.place false k ne))
            (subst (λ k. FitsPen last (put open_at k false) w) place (over last open_at w (omega (arith, used, posts, f)) (None, standing)))),
      )

  turn_step : (x : Event) (e : Desk) (step : Step d x e) → Next e → TakeTurns last open_at (acts d x e step ++ more)
  turn_step (Drafts i x) e (p, a, free, item, same) next =
      let o = fits.0 i p a in
      let w = after_draft p x in
      let idle_w : IsIdle w.standing = (Some x, refl) in
      next last open_at
      (others e i p w a (ap (λ (y : Desk). y.views) same) last open_at (λ k ne. (refl, refl))
      record { used = o.used; free = λ _. o.free free; busy = λ q u. absurd (idle_only w q idle_w u) })
  turn_step (Posts i q) e (p, draft, a, free, few, proper, drafted, same) next =
      let o = fits.0 i p a in
      let w = after_post p q (time d) in
      let used = o.used in (
        o.free (draft, free),
        omega (arith, used),
        next (put last p.place (p.posts + 1)) (put open_at p.place true)
            (others e i p w a (ap (λ (y : Desk). y.views) same) (put last p.place (p.posts + 1)) (put open_at p.place true)
            (λ k ne. (put_else last p.place (p.posts + 1) k ne, put_else open_at p.place true k ne))
            (begun last open_at w q refl)),
      )
  turn_step (Tries i) e (p, a, c) next =
      ⊎_elim
      (λ u. stays e i p (after_lead p u.1.0) a (ap (λ (y : Desk). y.views) u.1.2) refl refl refl next)
      (λ u. stays e i p (after_miss p) a (ap (λ (y : Desk). y.views) u.1) refl refl refl next)
      c
  turn_step (Reads i k) e (p, a, leads, inside, same) next =
      stays e i p (after_read p k (d.control k)) a (ap (λ (y : Desk). y.views) same) refl refl refl next
  turn_step (ReadsItem i) e (p, due, a, leads, is_due, push, same) next =
      stays e i p (after_read_item p due (d.item due.place)) a (ap (λ (y : Desk). y.views) same) refl refl refl next
  turn_step (LaysItem i x) e (p, due, a, leads, is_due, plain, item, same) next =
      stays e i p (after_lay p due x) a (ap (λ (y : Desk). y.views) same) refl refl refl next
  turn_step (Answers i x) e (p, due, q, a, leads, is_due, is_kind, known, laid, may, same) next =
      stays e i p (after_answer p due q x) a (ap (λ (y : Desk). y.views) same) refl refl refl next
  turn_step (Applies i q x) e (p, a, leads, free, few, proper, may, same) next =
      let o = fits.0 i p a in
      let w = after_apply p q x (time d) in
      let k = p.place in
      let s = p.posts + 1 in
      let used = o.used in
      let here : put last k s k ≡ s = put_here last k s in (
        o.free free,
        omega (arith, used),
        (
          put_here open_at k true,
          here,
          next (put last k s) (put (put open_at k true) k false)
              (others e i p w a (ap (λ (y : Desk). y.views) same) (put last k s) (put (put open_at k true) k false)
              (λ j ne. (put_else last k s j ne, put_else (put open_at k true) k false j ne ∙ put_else open_at k true j ne))
              (over (put last k s) (put open_at k true) w (omega (arith, here)) (None, refl))),
        ),
      )
  turn_step (Archives i n) e (p, a, leads, same) next =
      stays e i p (after_archive p n) a (ap (λ (y : Desk). y.views) same) refl refl refl next
  turn_step (Changes i c) e (p, a, leads, same) next =
      stays e i p (after_change p c) a (ap (λ (y : Desk). y.views) same) refl refl refl next
  turn_step (HandsOut i) e (p, a, same) next =
      stays e i p (after_hand_out p) a (ap (λ (y : Desk). y.views) same) refl refl refl next
  turn_step (Releases i) e (p, a, leads, same) next =
      stays e i p (after_release p) a (ap (λ (y : Desk). y.views) same) refl refl refl next
  turn_step (ReleasesBy i q x) e (p, a, leads, none, free, few, proper, may, same) next =
      let o = fits.0 i p a in
      let w = after_release_by p q x (time d) in
      let k = p.place in
      let s = p.posts + 1 in
      let used = o.used in
      let here : put last k s k ≡ s = put_here last k s in (
        o.free free,
        omega (arith, used),
        (
          put_here open_at k true,
          here,
          next (put last k s) (put (put open_at k true) k false)
              (others e i p w a (ap (λ (y : Desk). y.views) same) (put last k s) (put (put open_at k true) k false)
              (λ j ne. (put_else last k s j ne, put_else (put open_at k true) k false j ne ∙ put_else open_at k true j ne))
              (over (put last k s) (put open_at k true) w (omega (arith, here)) (None, refl))),
        ),
      )
  turn_step (Looks i) e (p, q, a, waits, same) next =
      looks e i p (after_look p q (d.control p.place) (time d)) q a waits (ap (λ (y : Desk). y.views) same) refl refl (told_by (d.control p.place)) refl next
  turn_step (SeesItem i) e (p, q, n, a, waits, own, has, same) next =
      stays e i p (after_see p (d.item p.place)) a (ap (λ (y : Desk). y.views) same) refl refl refl next
  turn_step (TakesItem i) e (p, q, n, a, waits, own, has, same) next =
      let o = fits.0 i p a in
      let z = o.busy q waits in
      let w = after_take p q n (d.item p.place) (time d) in (
        z.0,
        z.1,
        next last (put open_at p.place false)
            (others e i p w a (ap (λ (y : Desk). y.views) same) last (put open_at p.place false) (λ k ne. (refl, put_else open_at p.place false k ne))
            (over last open_at w o.used (None, refl))),
      )

  -- a pen that comes out has used no serial
  comes_out : (i : ℕ) (e : Desk) → DealsPen d i e → Next e → TakeTurns last open_at more
  comes_out i e (k, m, a, inside, same) next =
      let here = fits.1 i k m a in
      let new = here k (omega arith) in
      let none = new.0 in
      next last open_at
      (subst (λ (y : Desk). Fits y last open_at) (sym same) (
        each_dealt d rule.0 rule.1 rule.2 i k m a inside (λ _ y. FitsPen last open_at y) (λ j q b. fits.0 j q b)
            record { used = omega (arith, none); free = λ _. new.1; busy = λ q u. absurd (let f : Idle None ≡ Waiting q = u in cc) },
        λ j n u c x le.
            ⊎_elim
            (λ t. here x (omega (arith, t, le)))
            (λ t. fits.1 j n u t x le)
            (dealer_dealt d rule.0 rule.1 rule.2 i k m a inside j n u c),
      ))

  -- where only what pens know changes, the same fits
  know_on : (views : List View) (e : Desk) → e ≡ record d { views = views } → OnlyKnow rule.0 d.views views → Next e → TakeTurns last open_at more
  know_on views e same t next =
      next last open_at
      (subst (λ (y : Desk). Fits y last open_at) (sym same) (
        λ j q b. (let u = t.was j q b in subst (FitsPen last open_at) (sym u.2.same) (fits_still u.0 u.2.knew u.2.count u.2.duty (fits.0 j u.0 u.1))),
        λ j n m c. fits.1 j n m (t.dealers j n m c),
      ))

  turn_move : (x : Move) (e : Desk) (step : Happens d x e) → Next e → TakeTurns last open_at (acts_of d x e step ++ more)
  turn_move (Deals i) e step next = comes_out i e step next
  turn_move (Takes x) e step next = turn_step x e step next
  turn_move (CatchesUp i) e (p, found, a, lock, same) next =
      know_on (set d.views i (Holder (after_catch_up p found))) e same (caught_up_at d rule.0 rule.1 rule.2 i p a found lock) next
  turn_move (Writes i) e (p, a, same) next =
      know_on (set d.views i (Holder (after_writing p)) ++ Note p.known ∷ []) e same (written d rule.0 rule.1 rule.2 i p a) next
  turn_move (Hears i j) e (p, told, a, there, same) next =
      know_on (set (set d.views i (Holder (after_hearing p told))) j (Note [])) e same (heard d rule.0 rule.1 rule.2 i p a j told there) next
  turn_move (Copies i) e (told, there, same) next = know_on (set d.views i (Note told) ++ Note told ∷ []) e same (copied d rule.0 rule.1 rule.2 i told there) next
  turn_move (Testifies i) e (p, a, same) next = know_on (set d.views i (Holder p) ++ Testimony (p ∷ []) 0 ∷ []) e same (testified d rule.0 rule.1 rule.2 i p a) next
  turn_move (Retires i) e (p, a, idle, same) next =
      know_on (set d.views i (Holder (after_retiring p)) ++ Testimony (after_retiring p ∷ []) 0 ∷ []) e same (set_aside d rule.0 rule.1 rule.2 i p a Retired (after_retiring p ∷ []) 0) next
  turn_move (Sleeps i) e (p, a, idle, same) next =
      know_on (set d.views i (Holder (after_sleeping p)) ++ Testimony [] 1 ∷ []) e same (set_aside d rule.0 rule.1 rule.2 i p a Asleep [] 1) next
  turn_move (Wakes i j) e (p, n, a, there, ne, same) next =
      know_on (set (set d.views i (Holder (after_waking p))) j (Testimony [] 0)) e same (woken d rule.0 rule.1 rule.2 i j p n a there ne) next
  turn_move (Gathers i j) e (pens, more, n, m, a, there, ne, same) next =
      know_on (set (set d.views i (Testimony (pens ++ more) (n + m))) j (Testimony [] 0)) e same (gathered d rule.0 rule.1 rule.2 i j pens more n m a there ne) next

pub moves_keep : QueueLaws → (d : Desk) (x : Move) (e : Desk) → MeetsRule d → Happens d x e → MeetsRule e
moves_keep laws d (Deals i) e m (k, room, a, inside, same) = subst MeetsRule (sym same) (dealing_keeps d i k room m a inside)
moves_keep laws d (Takes x) e m step = steps_keep laws d e x m step
moves_keep laws d (CatchesUp i) e m (p, found, a, lock, same) =
    subst MeetsRule (sym same) (m.0, m.1, only_keeps d m.0 m.1 m.2 (set d.views i (Holder (after_catch_up p found))) (caught_up_at d m.0 m.1 m.2 i p a found lock))
moves_keep laws d (Writes i) e m (p, a, same) = subst MeetsRule (sym same) (writing_keeps d i p m a)
moves_keep laws d (Hears i j) e m (p, told, a, there, same) = subst MeetsRule (sym same) (hearing_keeps d i p m a j told there)
moves_keep laws d (Copies i) e m (told, there, same) = subst MeetsRule (sym same) (copying_keeps d i told m there)
moves_keep laws d (Testifies i) e m (p, a, same) =
    subst MeetsRule (sym same) (m.0, m.1, only_keeps d m.0 m.1 m.2 (set d.views i (Holder p) ++ Testimony (p ∷ []) 0 ∷ []) (testified d m.0 m.1 m.2 i p a))
moves_keep laws d (Retires i) e m (p, a, idle, same) =
    subst MeetsRule (sym same)
    (m.0, m.1, only_keeps d m.0 m.1 m.2 (set d.views i (Holder (after_retiring p)) ++ Testimony (after_retiring p ∷ []) 0 ∷ []) (set_aside d m.0 m.1 m.2 i p a Retired (after_retiring p ∷ []) 0))
moves_keep laws d (Sleeps i) e m (p, a, idle, same) =
    subst MeetsRule (sym same)
    (m.0, m.1, only_keeps d m.0 m.1 m.2 (set d.views i (Holder (after_sleeping p)) ++ Testimony [] 1 ∷ []) (set_aside d m.0 m.1 m.2 i p a Asleep [] 1))
moves_keep laws d (Wakes i j) e m (p, n, a, there, ne, same) =
    subst MeetsRule (sym same)
    (m.0, m.1, only_keeps d m.0 m.1 m.2 (set (set d.views i (Holder (after_waking p))) j (Testimony [] 0)) (woken d m.0 m.1 m.2 i j p n a there ne))
moves_keep laws d (Gathers i j) e m (pens, more, n, k, a, there, ne, same) =
    subst MeetsRule (sym same)
    (m.0, m.1, only_keeps d m.0 m.1 m.2 (set (set d.views i (Testimony (pens ++ more) (n + k))) j (Testimony [] 0)) (gathered d m.0 m.1 m.2 i j pens more n k a there ne))

turns_on : QueueLaws → (xs : List Move) (d e : Desk) (last : ℕ → ℕ) (open_at : ℕ → Bool) → MeetsRule d → Fits d last open_at → (run : DealtRun d xs e)
    → TakeTurns last open_at (dealt_history d xs e run)
turns_on laws [] d e last open_at rule fits run = tt
turns_on laws (x ∷ xs) d e last open_at rule fits run =
    turn_move d rule last open_at fits (dealt_history run.0 xs e run.2) x run.0 run.1
    (λ last' open' f. turns_on laws xs run.0 e last' open' (moves_keep laws d x run.0 rule run.1) f run.2)

-- from where no pen has begun
pub take_turns : QueueLaws → (o : Desk) (xs : List Move) (d : Desk) → MeetsRule o → (run : DealtRun o xs d)
    → ((i : ℕ) (p : PenState) → Has o.views i p → (q : Request) → p.standing ≡ Waiting q → ⊥)
    → TakeTurns (λ _. 0) (λ _. false) (dealt_history o xs d run)
take_turns laws o xs d meets run none =
    turns_on laws xs o d (λ _. 0) (λ _. false) meets (
      λ i p a. record { used = omega arith; free = λ _. refl; busy = λ q u. absurd (none i p a q u) },
      λ i next known a k le. (refl, refl),
    )
    run
