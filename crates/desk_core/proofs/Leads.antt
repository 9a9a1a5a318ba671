-- A lead by its events: what is due at a place that the leader reads, until it is answered.
use Rattle.std.proofs.Common.{◌≡◌, ℕ, ◌⊎◌, inl, inr, ⊎_elim, Bool, true, false, List, [], ◌∷◌, set, refl, ap, sym, ◌∙◌, subst, arith, eqb-true}
use Rattle.std.specs.Prelude.{Some, None, Contains, if◌then◌else◌, ◌==◌}
use Rattle.std.proofs.lemmas.List.Elements.{Contains-push_cases, Contains-append_cases}
use mathlib.Core.Logic.{dite}
use native.Mathlib.Decide.{ℕ_discrete}
use Rattle.pq_types.specs.Asked.{Answer}
use Rattle.pq_types.specs.declared.control.Control.{Control}
use Rattle.pq_types.specs.declared.control.Control.TheVariants.{Nothing, Posted, Answered}
use Rattle.pq_types.specs.Control.{is_posted}
use Rattle.desk_core.specs.declared.model.Due.{Due}
use Rattle.desk_core.specs.declared.model.PenState.{PenState}
use Rattle.desk_core.specs.declared.model.View.TheVariants.{Holder}
use Rattle.desk_core.specs.Pen.{due_at, with_known, after_draft, after_post, after_miss, after_read_item, after_lay, after_apply, after_archive, after_change, after_hand_out, after_look, after_see, after_take}
use Rattle.desk_core.specs.Desk.{Desk, time, Has}
use Rattle.desk_core.specs.Steps.{Event, Drafts, Posts, Tries, Reads, ReadsItem, LaysItem, Answers, Applies, Archives, Changes, HandsOut, Releases, ReleasesBy, Looks, SeesItem, TakesItem, actor, Step}
use Rattle.desk_core.specs.Rule.{MeetsRule}
use Rattle.desk_core.specs.Leads.{InTurn, Serving, places_read}
use Rattle.desk_core.proofs.Journals.{QueueLaws}
use Rattle.desk_core.proofs.Views.{has_here, same_pen}
use Rattle.desk_core.proofs.StepFacts.{not_both_locks, one_due}
use Rattle.desk_core.proofs.Runs.{steps_keep}
use Rattle.desk_core.proofs.Moves.{moves, others_stay}

-- the pen at the seat owes an answer at the place
pub record OwesAnswer (d : Desk) (seat place : ℕ) : Type 0 where
  pub pen : PenState
  pub owed : Due
  pub has : Has d.views seat pen
  pub due : pen.due ≡ Some owed
  pub there : owed.place ≡ place

-- what is read posted is due
pub due_there : (place : ℕ) (c : Control) → is_posted c ≡ true → (due : Due) × (due_at place c ≡ Some due) × (due.place ≡ place)
due_there place Nothing e = absurd (let f : false ≡ true = e in cc)
due_there place (Posted s k) e = (_, refl, refl)
due_there place (Answered n) e = absurd (let f : false ≡ true = e in cc)

one_alone : (x y : ℕ) → Contains (x ∷ []) y → x ≡ y
one_alone x y h = ⊎_elim (λ t. absurd (omega (arith, t.1))) (λ t. t) (Contains-push_cases [] x y h)

read_now : (b : Bool) (seat who k place : ℕ) (es : List Event) → (who == seat) ≡ b → Contains (if b then k ∷ places_read seat es else places_read seat es) place
    → Contains (places_read seat es) place ⊎ (Reads who k ≡ Reads seat place)
read_now true seat who k place es e h =
    ⊎_elim (λ t. inr (let f : who ≡ seat = eqb-true who seat e in let g : k ≡ place = one_alone k place t in cc)) (λ t. inl t) (Contains-append_cases (k ∷ []) (places_read seat es) place h)
read_now false seat who k place es e h = inl h

-- a place that is read is read by the first event or later
now_or_later : (seat : ℕ) (x : Event) (es : List Event) (place : ℕ) → Contains (places_read seat (x ∷ es)) place
    → Contains (places_read seat es) place ⊎ (x ≡ Reads seat place)
now_or_later seat (Drafts i x) es place h = inl h
now_or_later seat (Posts i q) es place h = inl h
now_or_later seat (Tries i) es place h = inl h
now_or_later seat (Reads i k) es place h = read_now (i == seat) seat i k place es refl h
now_or_later seat (ReadsItem i) es place h = inl h
now_or_later seat (LaysItem i x) es place h = inl h
now_or_later seat (Answers i a) es place h = inl h
now_or_later seat (Applies i q a) es place h = inl h
now_or_later seat (Archives i n) es place h = inl h
now_or_later seat (Changes i c) es place h = inl h
now_or_later seat (HandsOut i) es place h = inl h
now_or_later seat (Releases i) es place h = inl h
now_or_later seat (ReleasesBy i q a) es place h = inl h
now_or_later seat (Looks i) es place h = inl h
now_or_later seat (SeesItem i) es place h = inl h
now_or_later seat (TakesItem i) es place h = inl h

pub its_due : (d : Desk) (seat place : ℕ) (o : OwesAnswer d seat place) (p : PenState) → Has d.views seat p → p.due ≡ Some o.owed
its_due d seat place o p a = subst (λ (y : PenState). y.due ≡ Some o.owed) (same_pen d.views seat o.pen p o.has a) o.due

-- what is due at an answering step is due there
pub due_here : (d : Desk) (seat place : ℕ) (o : OwesAnswer d seat place) (p : PenState) (due : Due) → Has d.views seat p → p.due ≡ Some due → due.place ≡ place
due_here d seat place o p due a e = ap (λ (y : Due). y.place) (one_due p.due due o.owed e (its_due d seat place o p a)) ∙ o.there

owes_after : (d e : Desk) (seat place : ℕ) → OwesAnswer d seat place → (p w : PenState) → Has d.views seat p → e.views ≡ set d.views seat (Holder w)
    → w.due ≡ p.due → OwesAnswer e seat place
owes_after d e seat place o p w a views kept =
    record { pen = w; owed = o.owed; has = subst (λ vs. Has vs seat w) (sym views) (has_here d.views seat p w a); due = kept ∙ its_due d seat place o p a; there = o.there }

-- it is due still once the leader knows its item
owes_known : (d e : Desk) (seat place : ℕ) → OwesAnswer d seat place → (p w : PenState) (due now : Due) → Has d.views seat p
    → e.views ≡ set d.views seat (Holder w) → p.due ≡ Some due → w.due ≡ Some now → now.place ≡ due.place → OwesAnswer e seat place
owes_known d e seat place o p w due now a views is_due is_now same =
    record { pen = w; owed = now; has = subst (λ vs. Has vs seat w) (sym views) (has_here d.views seat p w a); due = is_now; there = same ∙ due_here d seat place o p due a is_due }

-- What is true before a lead and stays true, what is true once the place's post is answered and
-- stays true, and what the leader's reads and answers at the place do.
pub record Promise (seat place : ℕ) (Before After : Desk → Type 0) : Type 0 where
  pub before_stays : (d : Desk) (x : Event) (e : Desk) → MeetsRule d → Step d x e → Before d → Before e
  pub after_stays : (d : Desk) (x : Event) (e : Desk) → MeetsRule d → Step d x e → After d → After e
  pub read : (d e : Desk) → MeetsRule d → Step d (Reads seat place) e → Before d → OwesAnswer e seat place ⊎ After e
  pub answered : (d e : Desk) (x : Answer) → MeetsRule d → Step d (Answers seat x) e → Before d → OwesAnswer d seat place → After e

module _ (place : ℕ) (Before After : Desk → Type 0) where
  -- what is due to an acting pen is due to it still, or has been answered
  owes_self : (d : Desk) (x : Event) (e : Desk) → Promise (actor x) place Before After → MeetsRule d → Step d x e → InTurn (actor x) d x
      → OwesAnswer d (actor x) place → Before d
      → OwesAnswer e (actor x) place ⊎ After e
  owes_self d (Drafts i x) e t m (p, a, free, item, same) turn o h = inl (owes_after d e i place o p (after_draft p x) a (ap (λ (y : Desk). y.views) same) refl)
  owes_self d (Posts i q) e t m (p, draft, a, free, few, proper, drafted, same) turn o h = inl (owes_after d e i place o p (after_post p q (time d)) a (ap (λ (y : Desk). y.views) same) refl)
  owes_self d (Tries i) e t m (p, a, c) turn o h =
      ⊎_elim
      (λ u. absurd (not_both_locks d.held u.0 (m.2.led i p a (m.2.due i p a o.owed (its_due d i place o p a)).0).1))
      (λ u. inl (owes_after d e i place o p (after_miss p) a (ap (λ (y : Desk). y.views) u.1) refl))
      c
  owes_self d (Reads i k) e t m (p, a, leads, inside, same) turn o h = absurd (let f : Some o.owed ≡ None = sym (its_due d i place o p a) ∙ turn refl p a in cc)
  owes_self d (ReadsItem i) e t m (p, due, a, leads, is_due, push, same) turn o h =
      inl (owes_known d e i place o p (after_read_item p due (d.item due.place)) due (with_known due (d.item due.place)) a (ap (λ (y : Desk). y.views) same) is_due refl refl)
  owes_self d (LaysItem i x) e t m (p, due, a, leads, is_due, plain, item, same) turn o h =
      inl (owes_known d e i place o p (after_lay p due x) due (with_known due x) a (ap (λ (y : Desk). y.views) same) is_due refl refl)
  owes_self d (Answers i x) e t m step turn o h = inr (t.answered d e x m step h o)
  owes_self d (Applies i q x) e t m (p, a, leads, free, few, proper, may, same) turn o h = inl (owes_after d e i place o p (after_apply p q x (time d)) a (ap (λ (y : Desk). y.views) same) refl)
  owes_self d (Archives i n) e t m (p, a, leads, same) turn o h = inl (owes_after d e i place o p (after_archive p n) a (ap (λ (y : Desk). y.views) same) refl)
  owes_self d (Changes i c) e t m (p, a, leads, same) turn o h = inl (owes_after d e i place o p (after_change p c) a (ap (λ (y : Desk). y.views) same) refl)
  owes_self d (HandsOut i) e t m (p, a, same) turn o h = inl (owes_after d e i place o p (after_hand_out p) a (ap (λ (y : Desk). y.views) same) refl)
  owes_self d (Releases i) e t m step turn o h = absurd (turn refl)
  owes_self d (ReleasesBy i q x) e t m step turn o h = absurd (turn refl)
  owes_self d (Looks i) e t m (p, q, a, waits, same) turn o h = inl (owes_after d e i place o p (after_look p q (d.control p.place) (time d)) a (ap (λ (y : Desk). y.views) same) refl)
  owes_self d (SeesItem i) e t m (p, q, n, a, waits, own, has, same) turn o h = inl (owes_after d e i place o p (after_see p (d.item p.place)) a (ap (λ (y : Desk). y.views) same) refl)
  owes_self d (TakesItem i) e t m (p, q, n, a, waits, own, has, same) turn o h = inl (owes_after d e i place o p (after_take p q n (d.item p.place) (time d)) a (ap (λ (y : Desk). y.views) same) refl)

  -- what is due to the leader is due still after any step, or has been answered
  owes_on : (d : Desk) (x : Event) (e : Desk) (seat : ℕ) → Promise seat place Before After → MeetsRule d → Step d x e → InTurn seat d x
      → OwesAnswer d seat place → Before d → OwesAnswer e seat place ⊎ After e
  owes_on d x e seat t m step turn o h =
      dite (ℕ_discrete seat (actor x))
      (λ f.
      (subst (λ n. OwesAnswer e n place ⊎ After e) (sym f)
      (owes_self d x e (subst (λ n. Promise n place Before After) f t) m step (subst (λ n. InTurn n d x) f turn) (subst (λ n. OwesAnswer d n place) f o) h)))
      (λ ne. inl record { pen = o.pen; owed = o.owed; has = others_stay d e (actor x) seat o.pen (moves d x e m step) ne o.has; due = o.due; there = o.there })

  -- what becomes of a post: its place is still to be read, or its answer is due, or it has its
  -- answer
  abbrev Fate : Desk → List Event → ℕ → Type 0
  Fate d es seat = Contains (places_read seat es) place ⊎ (OwesAnswer d seat place ⊎ After d)

  goes_on : (d : Desk) (x : Event) (e : Desk) (es : List Event) (seat : ℕ) → Promise seat place Before After → MeetsRule d → Step d x e
      → InTurn seat d x → Before d → Fate d (x ∷ es) seat → Fate e es seat
  goes_on d x e es seat t m step turn h fate =
      ⊎_elim
      (λ c. ⊎_elim (λ u. inl u) (λ u. inr (t.read d e m (subst (λ y. Step d y e) u step) h)) (now_or_later seat x es place c))
      (λ c. inr (⊎_elim (λ u. owes_on d x e seat t m step turn u h) (λ u. inr (t.after_stays d x e m step u)) c))
      fate

  serves : QueueLaws → (es : List Event) (d d' : Desk) (seat : ℕ) → Promise seat place Before After → MeetsRule d → Serving seat d es d' → Before d
      → Fate d es seat → After d'
  serves laws [] d d' seat t m s h fate =
      ⊎_elim
      (λ c. absurd (omega (arith, c.1)))
      (λ c.
      ⊎_elim
      (λ u. absurd (let f : Some u.owed ≡ None = sym u.due ∙ s.1 u.pen u.has in cc))
      (λ u. subst After (sym s.0) u)
      c)
      fate
  serves laws (x ∷ es) d d' seat t m s h fate =
      let e = s.0 in
      serves laws es e d' seat t (steps_keep laws d e x m s.1) s.3 (t.before_stays d x e m s.1 h) (goes_on d x e es seat t m s.1 s.2 h fate)

  -- a lead keeps its promise at each place that it reads
  pub lead_keeps_promise : QueueLaws → (es : List Event) (d d' : Desk) (seat : ℕ) → Promise seat place Before After → MeetsRule d
      → Serving seat d es d' → Before d → Contains (places_read seat es) place → After d'
  lead_keeps_promise laws es d d' seat t m s h c = serves laws es d d' seat t m s h (inl c)
