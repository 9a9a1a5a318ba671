-- What was posted at a place before a lead that reads it has its answer afterwards.
use Rattle.std.proofs.Common.{◌≡◌, ℕ, ◌≤◌, ◌⊎◌, inl, inr, ⊎_elim, true, ap, sym, ◌∙◌, subst}
use mathlib.Core.Logic.{dite}
use native.Mathlib.Decide.{ℕ_discrete}
use Rattle.pq_types.specs.Asked.{Request}
use Rattle.pq_types.specs.Asked.{Answer}
use Rattle.pq_types.specs.Control.{answered, is_posted, is_answer}
use Rattle.desk_core.specs.declared.model.Due.{Due}
use Rattle.desk_core.specs.declared.model.PenState.{PenState}
use Rattle.desk_core.specs.Pen.{after_read, after_answer}
use Rattle.desk_core.specs.Desk.{Desk, Has, with_control, with_pen}
use Rattle.desk_core.specs.Steps.{Reads, Answers, actor, Step}
use Rattle.desk_core.specs.Rule.{MeetsRule}
use Rattle.desk_core.specs.Leads.{HasPosted, HasAnswer, PostedAreAnswered}
use Rattle.desk_core.proofs.Records.{put_here}
use Rattle.desk_core.proofs.Views.{has_here, has_else, same_pen}
use Rattle.desk_core.proofs.Stand.{record_there}
use Rattle.desk_core.proofs.Moves.{moves, posted_stays, answered_stays}
use Rattle.desk_core.proofs.Journals.{QueueLaws}
use Rattle.desk_core.proofs.Leads.{OwesAnswer, due_there, due_here, lead_keeps_promise}

-- the control of a place whose pen has posted is a post, or the posts so far are answered
control_read : (d : Desk) (place serial : ℕ) → MeetsRule d → HasPosted d place serial → (is_posted (d.control place) ≡ true) ⊎ HasAnswer d place serial
control_read d place serial m (positive, (j, q, b, at, le)) =
    ⊎_elim
    (λ t. inl (ap (λ n. is_posted (d.control n)) (sym at) ∙ t))
    (λ t. inr (j, q, b, at, le, inr t))
    (record_there d.room m.0 (d.control q.place) (d.item q.place) q.place q.posts q.mine q.standing (m.2.pens j q b).stands)

-- after an answer at the place the posts of its pen so far are answered
serve_answers : (d : Desk) (seat : ℕ) (p : PenState) (due : Due) (serial : ℕ) (q : Request) (x : Answer) → MeetsRule d → Has d.views seat p
    → HasPosted d due.place serial
    → HasAnswer (with_pen (with_control d due.place (answered x)) seat (after_answer p due q x)) due.place serial
serve_answers d seat p due serial q x m a (positive, (j, v, b, at, le)) =
    let place = due.place in
    let after = with_control d place (answered x) in
    let w = after_answer p due q x in
    let here : is_answer (after.control place) ≡ true = ap is_answer (put_here d.control place (answered x)) in
    dite (ℕ_discrete j seat)
    (λ f.
    (let g : p ≡ v = same_pen d.views seat p v a (subst (λ n. Has d.views n v) f b) in
    let at' : p.place ≡ place = ap (λ (y : PenState). y.place) g ∙ at in
    (seat, w, has_here d.views seat p w a, at', subst (λ (y : PenState). serial ≤ y.posts) (sym g) le, inr (inr (ap (λ n. is_answer (after.control n)) at' ∙ here)))))
    (λ ne. (j, v, has_else d.views seat j w v ne b, at, le, inr (inr (ap (λ n. is_answer (after.control n)) at ∙ here))))

-- what stands posted where the leader reads is due to it then
read_owes : (d e : Desk) (seat place serial : ℕ) → MeetsRule d → Step d (Reads seat place) e → HasPosted d place serial
    → OwesAnswer e seat place ⊎ HasAnswer e place serial
read_owes d e seat place serial m (p, a, leads, inside, same) h =
    let c = d.control place in
    let w = after_read p place c in
    ⊎_elim
    (λ t.
    (let o = due_there place c t in
    inl record {
      pen = w;
      owed = o.0;
      has = subst (λ (y : Desk). Has y.views seat w) (sym same) (has_here d.views seat p w a);
      due = o.1;
      there = o.2;
    }))
    (λ t. inr (answered_stays d e seat place serial m (moves d (Reads seat place) e m (p, a, leads, inside, same)) t))
    (control_read d place serial m h)

answer_answers : (d e : Desk) (seat place serial : ℕ) (x : Answer) → MeetsRule d → Step d (Answers seat x) e → HasPosted d place serial
    → OwesAnswer d seat place → HasAnswer e place serial
answer_answers d e seat place serial x m (p, due, q, a, leads, is_due, is_kind, known, laid, may, same) h o =
    let there = due_here d seat place o p due a is_due in
    subst (λ (y : Desk). HasAnswer y place serial) (sym same)
    (subst (λ k. HasAnswer (with_pen (with_control d due.place (answered x)) seat (after_answer p due q x)) k serial) there
    (serve_answers d seat p due serial q x m a (subst (λ k. HasPosted d k serial) (sym there) h)))

pub posted_are_answered : QueueLaws → PostedAreAnswered
posted_are_answered laws d d' seat place serial events m s c h =
    lead_keeps_promise place (λ y. HasPosted y place serial) (λ y. HasAnswer y place serial) laws events d d' seat
    record {
      before_stays = λ d x e m step h. posted_stays d e (actor x) place serial (moves d x e m step) h;
      after_stays = λ d x e m step h. answered_stays d e (actor x) place serial m (moves d x e m step) h;
      read = λ d e m step h. read_owes d e seat place serial m step h;
      answered = λ d e x m step h o. answer_answers d e seat place serial x m step h o;
    }
    m s h c
