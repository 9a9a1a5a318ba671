-- A leader notes the places that it reads.
use Rattle.std.proofs.Common.{◌≡◌, ◌≢◌, ℕ, Bool, true, false, List, [], ◌∷◌, ◌++◌, refl, ap, sym, ◌∙◌, subst, ⊎_elim, append-nil, append_assoc, eq-eqb, ne_eqb}
use Rattle.std.specs.Prelude.{if◌then◌else◌, ◌==◌}
use mathlib.Core.Logic.{dite}
use native.Mathlib.Decide.{ℕ_discrete}
use Rattle.desk_core.specs.declared.model.PenState.{PenState}
use Rattle.desk_core.specs.Pen.{after_draft, after_post, after_lead, after_miss, after_read, after_read_item, after_lay, after_answer, after_apply, after_archive, after_change, after_hand_out, after_look, after_see, after_take}
use Rattle.desk_core.specs.Desk.{Desk, time, Has, with_pen}
use Rattle.desk_core.specs.Steps.{Event, Drafts, Posts, Tries, Reads, ReadsItem, LaysItem, Answers, Applies, Archives, Changes, HandsOut, Releases, ReleasesBy, Looks, SeesItem, TakesItem, actor, Step}
use Rattle.desk_core.specs.Rule.{MeetsRule}
use Rattle.desk_core.specs.Leads.{InTurn, Serving, places_read, LeadersNoteWhatTheyRead}
use Rattle.desk_core.proofs.Views.{has_here, same_pen}
use Rattle.desk_core.proofs.StepFacts.{not_both_locks}
use Rattle.desk_core.proofs.Journals.{QueueLaws}
use Rattle.desk_core.proofs.Runs.{steps_keep}
use Rattle.desk_core.proofs.Moves.{moves, others_stay}

-- the pen at the seat leads, and has noted these places
abbrev Noted : Desk → ℕ → List ℕ → Type 0
Noted d seat places = (p : PenState) × Has d.views seat p × (p.leading ≡ true) × (p.dealt ≡ places)

-- the pen v has become w, which has noted more places
becomes_noted : (d e m : Desk) (seat : ℕ) (v w p : PenState) (more : List ℕ) → Has d.views seat v → Has d.views seat p → e ≡ with_pen m seat w
    → m.views ≡ d.views → p.leading ≡ true
    → (v.leading ≡ true → w.leading ≡ true) → w.dealt ≡ v.dealt ++ more → Noted e seat (p.dealt ++ more)
becomes_noted d e m seat v w p more a b same views leads still dealt =
    let g = same_pen d.views seat v p a b in
    subst (λ (y : Desk). Noted y seat (p.dealt ++ more)) (sym same)
    (w, has_here m.views seat v w (subst (λ vs. Has vs seat v) (sym views) a), still (ap (λ (y : PenState). y.leading) g ∙ leads), dealt ∙ ap (λ (y : PenState). y.dealt ++ more) g)

notes_self : (d : Desk) (x : Event) (e : Desk) → MeetsRule d → Step d x e → InTurn (actor x) d x → (p : PenState) → Has d.views (actor x) p → p.leading ≡ true
    → Noted e (actor x) (p.dealt ++ places_read (actor x) (x ∷ []))
notes_self d (Drafts i x) e m (v, a, free, item, same) turn p b leads = becomes_noted d e _ i v (after_draft v x) p [] a b same refl leads (λ l. l) (sym (append-nil v.dealt))
notes_self d (Posts i q) e m (v, draft, a, free, few, proper, drafted, same) turn p b leads = becomes_noted d e _ i v (after_post v q (time d)) p [] a b same refl leads (λ l. l) (sym (append-nil v.dealt))
notes_self d (Tries i) e m (v, a, t) turn p b leads =
    ⊎_elim
    (λ u. absurd (not_both_locks d.held u.0 (m.2.led i p b leads).1))
    (λ u. becomes_noted d e d i v (after_miss v) p [] a b u.1 refl leads (λ l. l) (sym (append-nil v.dealt)))
    t
notes_self d (Reads i k) e m (v, a, leading, inside, same) turn p b leads =
    rw (eq-eqb i i refl) (becomes_noted d e d i v (after_read v k (d.control k)) p (k ∷ []) a b same refl leads (λ l. l) refl)
notes_self d (ReadsItem i) e m (v, due, a, leading, is_due, push, same) turn p b leads = becomes_noted d e d i v (after_read_item v due (d.item due.place)) p [] a b same refl leads (λ l. l) (sym (append-nil v.dealt))
notes_self d (LaysItem i x) e m (v, due, a, leading, is_due, plain, item, same) turn p b leads = becomes_noted d e _ i v (after_lay v due x) p [] a b same refl leads (λ l. l) (sym (append-nil v.dealt))
notes_self d (Answers i x) e m (v, due, q, a, leading, is_due, is_kind, known, laid, may, same) turn p b leads = becomes_noted d e _ i v (after_answer v due q x) p [] a b same refl leads (λ l. l) (sym (append-nil v.dealt))
notes_self d (Applies i q x) e m (v, a, leading, free, few, proper, may, same) turn p b leads = becomes_noted d e d i v (after_apply v q x (time d)) p [] a b same refl leads (λ l. l) (sym (append-nil v.dealt))
notes_self d (Archives i n) e m (v, a, leading, same) turn p b leads = becomes_noted d e d i v (after_archive v n) p [] a b same refl leads (λ l. l) (sym (append-nil v.dealt))
notes_self d (Changes i c) e m (v, a, leading, same) turn p b leads = becomes_noted d e d i v (after_change v c) p [] a b same refl leads (λ l. l) (sym (append-nil v.dealt))
notes_self d (HandsOut i) e m (v, a, same) turn p b leads = becomes_noted d e d i v (after_hand_out v) p [] a b same refl leads (λ l. l) (sym (append-nil v.dealt))
notes_self d (Releases i) e m step turn p b leads = absurd (turn refl)
notes_self d (ReleasesBy i q x) e m step turn p b leads = absurd (turn refl)
notes_self d (Looks i) e m (v, q, a, waits, same) turn p b leads = becomes_noted d e d i v (after_look v q (d.control v.place) (time d)) p [] a b same refl leads (λ l. l) (sym (append-nil v.dealt))
notes_self d (SeesItem i) e m (v, q, n, a, waits, own, has, same) turn p b leads = becomes_noted d e d i v (after_see v (d.item v.place)) p [] a b same refl leads (λ l. l) (sym (append-nil v.dealt))
notes_self d (TakesItem i) e m (v, q, n, a, waits, own, has, same) turn p b leads = becomes_noted d e d i v (after_take v q n (d.item v.place) (time d)) p [] a b same refl leads (λ l. l) (sym (append-nil v.dealt))

-- what another reads is not noted
none_read : (seat : ℕ) (x : Event) → seat ≢ actor x → places_read seat (x ∷ []) ≡ []
none_read seat (Drafts i x) ne = refl
none_read seat (Posts i q) ne = refl
none_read seat (Tries i) ne = refl
none_read seat (Reads i k) ne = rw (ne_eqb i seat (λ e. ne (sym e))) refl
none_read seat (ReadsItem i) ne = refl
none_read seat (LaysItem i x) ne = refl
none_read seat (Answers i a) ne = refl
none_read seat (Applies i q a) ne = refl
none_read seat (Archives i n) ne = refl
none_read seat (Changes i c) ne = refl
none_read seat (HandsOut i) ne = refl
none_read seat (Releases i) ne = refl
none_read seat (ReleasesBy i q a) ne = refl
none_read seat (Looks i) ne = refl
none_read seat (SeesItem i) ne = refl
none_read seat (TakesItem i) ne = refl

notes_on : (d : Desk) (x : Event) (e : Desk) (seat : ℕ) → MeetsRule d → Step d x e → InTurn seat d x → (p : PenState) → Has d.views seat p
    → p.leading ≡ true → Noted e seat (p.dealt ++ places_read seat (x ∷ []))
notes_on d x e seat m step turn p a leads =
    dite (ℕ_discrete seat (actor x))
    (λ f.
    subst (λ n. Noted e n (p.dealt ++ places_read n (x ∷ []))) (sym f)
    (notes_self d x e m step (subst (λ n. InTurn n d x) f turn) p (subst (λ n. Has d.views n p) f a) leads))
    (λ ne. (p, others_stay d e (actor x) seat p (moves d x e m step) ne a, leads, sym (append-nil p.dealt) ∙ ap (λ (l : List ℕ). p.dealt ++ l) (sym (none_read seat x ne))))

first_read : (b : Bool) (k : ℕ) (rest : List ℕ) → (if b then k ∷ rest else rest) ≡ (if b then k ∷ [] else []) ++ rest
first_read true k rest = refl
first_read false k rest = refl

read_first : (seat : ℕ) (x : Event) (es : List Event) → places_read seat (x ∷ es) ≡ places_read seat (x ∷ []) ++ places_read seat es
read_first seat (Drafts i x) es = refl
read_first seat (Posts i q) es = refl
read_first seat (Tries i) es = refl
read_first seat (Reads i k) es = first_read (i == seat) k (places_read seat es)
read_first seat (ReadsItem i) es = refl
read_first seat (LaysItem i x) es = refl
read_first seat (Answers i a) es = refl
read_first seat (Applies i q a) es = refl
read_first seat (Archives i n) es = refl
read_first seat (Changes i c) es = refl
read_first seat (HandsOut i) es = refl
read_first seat (Releases i) es = refl
read_first seat (ReleasesBy i q a) es = refl
read_first seat (Looks i) es = refl
read_first seat (SeesItem i) es = refl
read_first seat (TakesItem i) es = refl

-- a pen that leads adds what it reads to what it has noted
notes_more : QueueLaws → (d d' : Desk) (seat : ℕ) (p : PenState) (events : List Event) → MeetsRule d → Serving seat d events d' → Has d.views seat p
    → p.leading ≡ true → Noted d' seat (p.dealt ++ places_read seat events)
notes_more laws d d' seat p [] m s a leads = (p, subst (λ (y : Desk). Has y.views seat p) (sym s.0) a, leads, sym (append-nil p.dealt))
notes_more laws d d' seat p (x ∷ es) m s a leads =
    let e = s.0 in
    let t = notes_on d x e seat m s.1 s.2 p a leads in
    let u = notes_more laws e d' seat t.0 es (steps_keep laws d e x m s.1) s.3 t.1 t.2 in
    (u.0, u.1, u.2, u.3 ∙ (ap (λ (l : List ℕ). l ++ places_read seat es) t.3 ∙ (append_assoc p.dealt (places_read seat (x ∷ [])) (places_read seat es) ∙ ap (λ (l : List ℕ). p.dealt ++ l) (sym (read_first seat x es)))))

-- the lock was free, so the try has won it: the pen leads, and has noted nothing yet
begins_noting : (d led : Desk) (seat : ℕ) → d.held ≡ false → Step d (Tries seat) led → Noted led seat []
begins_noting d led seat free (p, a, t) =
    ⊎_elim
    (λ u. (let w = after_lead p u.1.0 in subst (λ (y : Desk). Noted y seat []) (sym u.1.2) (w, has_here d.views seat p w a, refl, refl)))
    (λ u. absurd (not_both_locks d.held free u.0))
    t

pub leaders_note : QueueLaws → LeadersNoteWhatTheyRead
leaders_note laws d led d' seat events m free win s =
    let t = begins_noting d led seat free win in
    let u = notes_more laws led d' seat t.0 events (steps_keep laws d led (Tries seat) m win) s t.1 t.2 in
    (u.0, u.1, u.2, u.3 ∙ ap (λ (l : List ℕ). l ++ places_read seat events) t.3)
