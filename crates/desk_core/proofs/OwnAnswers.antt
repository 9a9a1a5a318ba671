-- A leader that reads its own place knows its own answer afterwards.
use Rattle.std.proofs.Common.{◌≡◌, ℕ, ◌<◌, ◌≤◌, ◌⊎◌, inl, inr, ⊎_elim, true, refl, ap, sym, ◌∙◌, subst, arith}
use Rattle.std.specs.Prelude.{Some, None}
use mathlib.Core.Logic.{dite}
use native.Mathlib.Decide.{ℕ_discrete}
use Rattle.pq_types.specs.Asked.{Answer}
use Rattle.pq_types.specs.declared.control.Control.{Control}
use Rattle.pq_types.specs.Control.{answered, is_posted, is_answer}
use Rattle.desk_core.specs.declared.model.PenState.{PenState}
use Rattle.desk_core.specs.Pen.{IsIdle, after_draft, after_post, after_lead, after_miss, after_read, after_read_item, after_lay, after_answer, after_apply, after_archive, after_change, after_hand_out, after_release, after_release_by, after_look, after_see, after_take}
use Rattle.desk_core.specs.Desk.{Desk, time, Has}
use Rattle.desk_core.specs.Steps.{Event, Drafts, Posts, Tries, Reads, ReadsItem, LaysItem, Answers, Applies, Archives, Changes, HandsOut, Releases, ReleasesBy, Looks, SeesItem, TakesItem, actor, Step}
use Rattle.desk_core.specs.Rule.{MeetsRule}
use Rattle.desk_core.specs.Leads.{KnowsAnswer, AnswersStayKnown, LeadersKnowTheirAnswers}
use Rattle.desk_core.proofs.Views.{has_here, same_pen}
use Rattle.desk_core.proofs.Stand.{not_idle, record_there}
use Rattle.desk_core.proofs.Moves.{Moved, moves, others_stay, acts_after}
use Rattle.desk_core.proofs.OwnControls.{Notes, read_notes, answer_notes}
use Rattle.desk_core.proofs.Journals.{QueueLaws}
use Rattle.desk_core.proofs.Leads.{OwesAnswer, due_there, due_here, lead_keeps_promise}

-- what a pen knows of its post with this serial
Knows : PenState → ℕ → Type 0
Knows p serial = (serial < p.posts) ⊎ (IsIdle p.standing ⊎ (is_answer p.own ≡ true))

-- the pen at the seat has this place, and has made the post with this serial
Sits : Desk → ℕ → ℕ → ℕ → Type 0
Sits d seat place serial = (p : PenState) × Has d.views seat p × (p.place ≡ place) × (serial ≤ p.posts)

sits_on : (d e : Desk) (seat i place serial : ℕ) → Moved d e i → Sits d seat place serial → Sits e seat place serial
unfolding Sits
sits_on d e seat i place serial v (p, a, at, le) =
    dite (ℕ_discrete seat i)
    (λ f.
    (let g : v.before ≡ p = same_pen d.views i v.before p v.has (subst (λ n. Has d.views n p) f a) in
    let le' : serial ≤ v.before.posts = subst (λ (y : PenState). serial ≤ y.posts) (sym g) le in
    (v.after, subst (λ n. Has e.views n v.after) (sym f) (acts_after d e i v), v.place ∙ (ap (λ (y : PenState). y.place) g ∙ at), omega (arith, v.posts, le'))))
    (λ ne. (p, others_stay d e i seat p v ne a, at, le))

keeps_knowing : (p w : PenState) (serial : ℕ) → w.posts ≡ p.posts → (IsIdle p.standing → IsIdle w.standing)
    → (is_answer p.own ≡ true → is_answer w.own ≡ true) → Knows p serial → Knows w serial
unfolding Knows
keeps_knowing p w serial posts free own h = ⊎_elim (λ t. inl (subst (λ n. serial < n) (sym posts) t)) (λ t. inr (⊎_elim (λ u. inl (free u)) (λ u. inr (own u)) t)) h

-- what the acting pen p knows it goes on knowing as w
knows_then : (d e m : Desk) (i serial : ℕ) (v p w : PenState) → Has d.views i p → Has d.views i v → e ≡ m → Has m.views i w → w.posts ≡ p.posts
    → (IsIdle p.standing → IsIdle w.standing) → (is_answer p.own ≡ true → is_answer w.own ≡ true)
    → serial ≤ v.posts → Knows v serial → KnowsAnswer e i serial
unfolding Knows
knows_then d e m i serial v p w a b same has posts free own le h =
    let g = same_pen d.views i v p b a in
    let le' : serial ≤ p.posts = subst (λ (y : PenState). serial ≤ y.posts) g le in
    let h' : Knows p serial = subst (λ y. Knows y serial) g h in
    subst (λ (y : Desk). KnowsAnswer y i serial) (sym same) (w, has, subst (λ n. serial ≤ n) (sym posts) le', keeps_knowing p w serial posts free own h')

knows_self : (d : Desk) (x : Event) (e : Desk) (serial : ℕ) → MeetsRule d → Step d x e → (p : PenState) → Has d.views (actor x) p → serial ≤ p.posts
    → Knows p serial → KnowsAnswer e (actor x) serial
unfolding Knows
knows_self d (Drafts i x) e serial m (p, a, free, item, same) v b le h = knows_then d e _ i serial v p (after_draft p x) a b same (has_here d.views i p (after_draft p x) a) refl (λ f. (Some x, refl)) (λ o. o) le h
knows_self d (Posts i q) e serial m (p, draft, a, free, few, proper, drafted, same) v b le h =
    let le' : serial ≤ p.posts = subst (λ (y : PenState). serial ≤ y.posts) (same_pen d.views i v p b a) le in
    subst (λ y. KnowsAnswer y i serial) (sym same) (after_post p q (time d), has_here d.views i p (after_post p q (time d)) a, omega (arith, le'), inl (omega (arith, le')))
knows_self d (Tries i) e serial m (p, a, t) v b le h =
    ⊎_elim
    (λ u. (let w = after_lead p u.1.0 in knows_then d e _ i serial v p w a b u.1.2 (has_here d.views i p w a) refl (λ f. f) (λ o. o) le h))
    (λ u. knows_then d e _ i serial v p (after_miss p) a b u.1 (has_here d.views i p (after_miss p) a) refl (λ f. f) (λ o. o) le h)
    t
knows_self d (Reads i k) e serial m (p, a, leads, inside, same) v b le h =
    let w = after_read p k (d.control k) in
    knows_then d e _ i serial v p w a b same (has_here d.views i p w a) refl (λ f. f)
    (λ o. ⊎_elim (λ t. ap is_answer (t.1 ∙ (ap d.control t.0 ∙ (m.2.pens i p a).own o)) ∙ o) (λ t. ap is_answer t.1 ∙ o) (read_notes p k (d.control k)))
    le h
knows_self d (ReadsItem i) e serial m (p, due, a, leads, is_due, push, same) v b le h =
    (let w = after_read_item p due (d.item due.place) in knows_then d e _ i serial v p w a b same (has_here d.views i p w a) refl (λ f. f) (λ o. o) le h)
knows_self d (LaysItem i x) e serial m (p, due, a, leads, is_due, plain, item, same) v b le h =
    (let w = after_lay p due x in knows_then d e _ i serial v p w a b same (has_here d.views i p w a) refl (λ f. f) (λ o. o) le h)
knows_self d (Answers i x) e serial m (p, due, q, a, leads, is_due, is_kind, known, laid, may, same) v b le h =
    let w = after_answer p due q x in
    knows_then d e _ i serial v p w a b same (has_here d.views i p w a) refl (λ f. f)
    (λ o. ⊎_elim (λ t. ap is_answer t.1) (λ t. ap is_answer t.1 ∙ o) (answer_notes p due q x))
    le h
knows_self d (Applies i q x) e serial m (p, a, leads, free, few, proper, may, same) v b le h =
    let le' : serial ≤ p.posts = subst (λ (y : PenState). serial ≤ y.posts) (same_pen d.views i v p b a) le in
    let w = after_apply p q x (time d) in
    subst (λ y. KnowsAnswer y i serial) (sym same) (w, has_here d.views i p w a, omega (arith, le'), inl (omega (arith, le')))
knows_self d (Archives i n) e serial m (p, a, leads, same) v b le h = knows_then d e _ i serial v p (after_archive p n) a b same (has_here d.views i p (after_archive p n) a) refl (λ f. f) (λ o. o) le h
knows_self d (Changes i c) e serial m (p, a, leads, same) v b le h = knows_then d e _ i serial v p (after_change p c) a b same (has_here d.views i p (after_change p c) a) refl (λ f. f) (λ o. o) le h
knows_self d (HandsOut i) e serial m (p, a, same) v b le h = knows_then d e _ i serial v p (after_hand_out p) a b same (has_here d.views i p (after_hand_out p) a) refl (λ f. f) (λ o. o) le h
knows_self d (Releases i) e serial m (p, a, leads, same) v b le h = knows_then d e _ i serial v p (after_release p) a b same (has_here d.views i p (after_release p) a) refl (λ f. f) (λ o. o) le h
knows_self d (ReleasesBy i q x) e serial m (p, a, leads, none, free, few, proper, may, same) v b le h =
    let le' : serial ≤ p.posts = subst (λ (y : PenState). serial ≤ y.posts) (same_pen d.views i v p b a) le in
    let w = after_release_by p q x (time d) in
    subst (λ y. KnowsAnswer y i serial) (sym same) (w, has_here d.views i p w a, omega (arith, le'), inl (omega (arith, le')))
knows_self d (Looks i) e serial m (p, q, a, waits, same) v b le h =
    let w = after_look p q (d.control p.place) (time d) in
    knows_then d e _ i serial v p w a b same (has_here d.views i p w a) refl (λ f. absurd (not_idle p.standing q waits f)) (λ o. ap is_answer ((m.2.pens i p a).own o) ∙ o) le h
knows_self d (SeesItem i) e serial m (p, q, n, a, waits, own, has, same) v b le h =
    (let w = after_see p (d.item p.place) in knows_then d e _ i serial v p w a b same (has_here d.views i p w a) refl (λ f. f) (λ o. o) le h)
knows_self d (TakesItem i) e serial m (p, q, n, a, waits, own, has, same) v b le h =
    (let w = after_take p q n (d.item p.place) (time d) in knows_then d e _ i serial v p w a b same (has_here d.views i p w a) refl (λ f. (None, refl)) (λ o. o) le h)

knows_on : (d : Desk) (x : Event) (e : Desk) (seat serial : ℕ) → MeetsRule d → Step d x e → KnowsAnswer d seat serial → KnowsAnswer e seat serial
unfolding Knows
knows_on d x e seat serial m step (p, a, le, h) =
    dite (ℕ_discrete seat (actor x))
    (λ f. subst (λ n. KnowsAnswer e n serial) (sym f) (knows_self d x e serial m step p (subst (λ n. Has d.views n p) f a) le h))
    (λ ne. (p, others_stay d e (actor x) seat p (moves d x e m step) ne a, le, h))

-- what a leader notes of its own place is this control
noted_here : (place : ℕ) (p : PenState) (c own : Control) → place ≡ p.place → Notes place p c own → is_answer c ≡ true → is_answer own ≡ true
noted_here place p c own e noted h = ⊎_elim (λ t. ap is_answer t.1 ∙ h) (λ t. absurd (t.0 e)) noted

pub answers_stay_known : AnswersStayKnown
answers_stay_known d e x seat serial m step h = knows_on d x e seat serial m step h

-- a leader's read of its own place finds its post due, or tells it its answer
read_tells : (d e : Desk) (seat place serial : ℕ) → MeetsRule d → Step d (Reads seat place) e → Sits d seat place serial
    → OwesAnswer e seat place ⊎ KnowsAnswer e seat serial
unfolding Sits
read_tells d e seat place serial m (p, a, leads, inside, same) (v, b, at, le) =
    let g = same_pen d.views seat v p b a in
    let at' : p.place ≡ place = subst (λ (y : PenState). y.place ≡ place) g at in
    let le' : serial ≤ p.posts = subst (λ (y : PenState). serial ≤ y.posts) g le in
    let c = d.control place in
    let w = after_read p place c in
    let has : Has e.views seat w = subst (λ (y : Desk). Has y.views seat w) (sym same) (has_here d.views seat p w a) in
    ⊎_elim
    (λ t.
    (let o = due_there place c (ap (λ k. is_posted (d.control k)) (sym at') ∙ t) in
    inl record { pen = w; owed = o.0; has = has; due = o.1; there = o.2 }))
    (λ t.
    inr (w, has, le', inr (⊎_elim (λ u. inl u) (λ u. inr (noted_here place p c w.own (sym at') (read_notes p place c) (ap (λ k. is_answer (d.control k)) (sym at') ∙ u))) t)))
    (record_there d.room m.0 (d.control p.place) (d.item p.place) p.place p.posts p.mine p.standing (m.2.pens seat p a).stands)

answer_tells : (d e : Desk) (seat place serial : ℕ) (x : Answer) → MeetsRule d → Step d (Answers seat x) e → Sits d seat place serial
    → OwesAnswer d seat place → KnowsAnswer e seat serial
unfolding Sits
answer_tells d e seat place serial x m (p, due, q, a, leads, is_due, is_kind, known, laid, may, same) (v, b, at, le) o =
    let g = same_pen d.views seat v p b a in
    let at' : p.place ≡ place = subst (λ (y : PenState). y.place ≡ place) g at in
    let le' : serial ≤ p.posts = subst (λ (y : PenState). serial ≤ y.posts) g le in
    let w = after_answer p due q x in
    let there = due_here d seat place o p due a is_due in
    subst (λ y. KnowsAnswer y seat serial) (sym same) (w, has_here d.views seat p w a, le', inr (inr (noted_here due.place p (answered x) w.own (there ∙ sym at') (answer_notes p due q x) refl)))

pub leaders_know : QueueLaws → LeadersKnowTheirAnswers
unfolding Sits
leaders_know laws d d' seat serial p events m s a le c =
    lead_keeps_promise p.place (λ y. Sits y seat p.place serial) (λ y. KnowsAnswer y seat serial) laws events d d' seat
    record {
      before_stays = λ d x e m step h. sits_on d e seat (actor x) p.place serial (moves d x e m step) h;
      after_stays = λ d x e m step h. knows_on d x e seat serial m step h;
      read = λ d e m step h. read_tells d e seat p.place serial m step h;
      answered = λ d e x m step h o. answer_tells d e seat p.place serial x m step h o;
    }
    m s (p, a, refl, le) c
