-- The plain clauses follow from the rule.
use Rattle.std.proofs.Common.{◌≡◌, ◌≢◌, ℕ, ◌+◌, ◌-◌, ◌<◌, ◌≤◌, ◌⊎◌, inl, inr, ⊎_elim, Bool, true, false, List, [], ◌∷◌, ◌++◌, refl, ap, sym, ◌∙◌, subst, arith}
use Rattle.std.specs.Prelude.{Some, None, slice_get}
use Rattle.std.specs.List.{AllByRecursion}
use mathlib.Core.Logic.{dite}
use native.Mathlib.Decide.{ℕ_discrete}
use Rattle.pq_types.specs.Item.{Item}
use Rattle.pq_types.specs.Asked.{Request}
use Rattle.pq_types.specs.declared.request.Request.TheVariants.{Push, Pop, Least}
use Rattle.pq_types.specs.Asked.{Reply}
use Rattle.pq_types.specs.Asked.{Answer}
use Rattle.pq_types.specs.declared.answer.Answer.TheVariants.{Entered, BookFull, NoMemory, Refused}
use Rattle.pq_types.specs.declared.control.Kind.TheVariants as kind
use Rattle.pq_types.specs.declared.control.Control.{Control}
use Rattle.pq_types.specs.declared.control.Control.TheVariants.{Nothing, Posted, Answered}
use Rattle.pq_types.specs.Asked.{Line}
use Rattle.pq_types.specs.Item.{item}
use Rattle.pq_types.specs.Queue.{IsPush}
use Rattle.desk_core.specs.Answering.{IsBarred}
use Rattle.pq_types.specs.Control.{kind_of, request_item, reply_item, answer_with, posted, answered, Carries, is_posted, is_answer}
use Rattle.pq_types.specs.History.{line}
use Rattle.pq_book.specs.Book.{Volume}
use Rattle.desk_core.specs.declared.model.Call.{Call}
use Rattle.desk_core.specs.declared.model.Standing.{Standing}
use Rattle.desk_core.specs.declared.model.Standing.TheVariants.{Idle, Waiting}
use Rattle.desk_core.specs.declared.model.PenState.{PenState}
use Rattle.desk_core.specs.Calls.{call, calls_of}
use Rattle.desk_core.specs.Pen.{IsIdle}
use Rattle.desk_core.specs.Desk.{Desk, Has, put}
use Rattle.desk_core.specs.Steps.{Drafts, Posts, Tries, Reads, ReadsItem, LaysItem, Answers, Applies, Archives, Changes, HandsOut, Releases, ReleasesBy, Looks, SeesItem, TakesItem}
use Rattle.desk_core.specs.Rule.{PenRule, RuleAt, Stands, fresh, idle, unanswered, entered, full, refused, barred, above_mine}
use Rattle.desk_core.specs.Clauses.{HasNo, AnswerClause, ItemsClause, Clauses, RuleGivesClauses, EveryRunMeetsClauses, ItemsAreStored}
use Rattle.desk_core.specs.Knows.{Knows, NoneAbove, LeadersKnow, HomeIsKnown}
use Rattle.desk_core.proofs.Records.{put_else, no_post, not_both, notice_back}
use Rattle.desk_core.proofs.Journals.{QueueLaws, all_more, all_weaker, lines_below}
use Rattle.desk_core.proofs.Stand.{not_idle, one_request, idle_stands, draft_stands}
use Rattle.desk_core.proofs.StepFacts.{poster, not_both_locks}
use Rattle.desk_core.proofs.Runs.{runs_meet}

no_line : (journal : List Line) (place posts : ℕ) (mine : List Call) → calls_of place journal ≡ mine → AllByRecursion (λ c. c.serial < posts) mine
    → HasNo journal place posts
no_line journal place posts mine e h =
    all_weaker (λ (l : Line). place ≡ l.place → l.serial < posts) (λ (l : Line). place ≡ l.place → l.serial ≢ posts) journal (λ l f g e. (let lt = f g in omega arith))
    (lines_below 1 place posts journal (subst (AllByRecursion (λ (c : Call). c.serial < posts)) (sym e) h))

not_none : (posts : ℕ) → posts ≡ 0 → 0 < posts → ⊥
not_none posts none some = omega arith

some_answer : (c : Control) → is_answer c ≡ true → (a : Answer) × (c ≡ answered a)
some_answer Nothing e = absurd (let f : false ≡ true = e in cc)
some_answer (Posted s k) e = absurd (let f : false ≡ true = e in cc)
some_answer (Answered n) e = (answer_with n (item 0 0), ap Answered (sym (notice_back n (item 0 0))))

is_push : (cell x : Item) (q : Request) → kind_of q ≡ kind.Push → Carries (request_item q) cell → cell ≡ x → q ≡ Push x
is_push cell x (Push y) e has f = ap Push (sym has ∙ f)
is_push cell x Pop e has f = absurd (cc e)
is_push cell x Least e has f = absurd (cc e)

module _ (room : ℕ) (journal : List Line) (control : Control) (cell : Item) (p : PenState) (m : PenRule room journal control cell p) where
  below : (q : Request) → p.standing ≡ Waiting q → AllByRecursion (λ c. c.serial < p.posts) p.mine
  below q w = subst (λ o. AllByRecursion (λ (c : Call). c.serial < above_mine p.posts o) p.mine) w m.looked

  never_there : Stands room journal control cell p.place p.posts p.standing p.mine → p.posts ≡ 0 → IsIdle p.standing × (control ≡ Nothing)
  never_there (fresh x w draft at seen) n = ((x, w), at)
  never_there (idle x w draft some at seen) n = absurd (not_none p.posts n some)
  never_there (unanswered q w proper some at item seen) n = absurd (not_none p.posts n some)
  never_there (entered q l r w some proper at item seen there) n = absurd (not_none p.posts n some)
  never_there (full q w some at all seen) n = absurd (not_none p.posts n some)
  never_there (refused q w some push at seen) n = absurd (not_none p.posts n some)
  never_there (barred q why w some is at seen) n = absurd (not_none p.posts n some)

  idle_there : Stands room journal control cell p.place p.posts p.standing p.mine → IsIdle p.standing
      → (control ≡ Nothing) ⊎ ((a : Answer) × (control ≡ answered a))
  idle_there (fresh x w draft at seen) free = inl at
  idle_there (idle x w draft some at seen) free = inr (some_answer control at)
  idle_there (unanswered q w proper some at item seen) free = absurd (not_idle p.standing q w free)
  idle_there (entered q l r w some proper at item seen there) free = absurd (not_idle p.standing q w free)
  idle_there (full q w some at all seen) free = absurd (not_idle p.standing q w free)
  idle_there (refused q w some push at seen) free = absurd (not_idle p.standing q w free)
  idle_there (barred q why w some is at seen) free = absurd (not_idle p.standing q w free)

  waiting_control : Stands room journal control cell p.place p.posts p.standing p.mine → (q : Request) → p.standing ≡ Waiting q
      → (control ≡ posted p.posts q) ⊎ ((a : Answer) × (control ≡ answered a) × AnswerClause room journal p q a)
  waiting_control (fresh x w draft at seen) q v = absurd (not_idle p.standing q v (x, w))
  waiting_control (idle x w draft some at seen) q v = absurd (not_idle p.standing q v (x, w))
  waiting_control (unanswered u w proper some at item seen) q v = inl (at ∙ ap (posted p.posts) (one_request p.standing u q w v))
  waiting_control (entered u l r w some proper at item seen there) q v =
      inr (Entered l r, at, (proper.0, there ∙ ap (λ y. Some (line p.place p.posts y r)) (one_request p.standing u q w v)))
  waiting_control (full u w some at all seen) q v = inr (BookFull, at, (all, no_line journal p.place p.posts p.mine seen (below q v)))
  waiting_control (barred u why w some is at seen) q v =
      inr (Refused why, at, (subst (λ y. IsBarred y why) (one_request p.standing u q w v) is.0, is.1, no_line journal p.place p.posts p.mine seen (below q v)))
  waiting_control (refused u w some push at seen) q v =
      inr (NoMemory, at, (subst IsPush (one_request p.standing u q w v) push, no_line journal p.place p.posts p.mine seen (below q v)))

  -- the cell of a request that stands posted
  posted_cell : Stands room journal control cell p.place p.posts p.standing p.mine → (q : Request) → p.standing ≡ Waiting q → is_posted control ≡ true
      → Carries (request_item q) cell
  posted_cell (fresh x w draft at seen) q v h = absurd (not_idle p.standing q v (x, w))
  posted_cell (idle x w draft some at seen) q v h = absurd (not_idle p.standing q v (x, w))
  posted_cell (unanswered u w proper some at item seen) q v h = subst (λ y. Carries (request_item y) cell) (one_request p.standing u q w v) item
  posted_cell (entered u l r w some proper at item seen there) q v h = absurd (not_both control h (ap is_answer at))
  posted_cell (full u w some at all seen) q v h = absurd (not_both control h (ap is_answer at))
  posted_cell (refused u w some push at seen) q v h = absurd (not_both control h (ap is_answer at))
  posted_cell (barred u why w some is at seen) q v h = absurd (not_both control h (ap is_answer at))

  -- the cell of an entered answer whose line has this reply
  answered_cell : Stands room journal control cell p.place p.posts p.standing p.mine → (q : Request) (l : ℕ) (r : Reply) → p.standing ≡ Waiting q
      → control ≡ answered (Entered l r) → slice_get journal (l - 1) ≡ Some (line p.place p.posts q r) → Carries (reply_item r) cell
  answered_cell (fresh x w draft at seen) q l r v e f = absurd (not_idle p.standing q v (x, w))
  answered_cell (idle x w draft some at seen) q l r v e f = absurd (not_idle p.standing q v (x, w))
  answered_cell (unanswered u w proper some at item seen) q l r v e f = absurd (no_post control p.posts (kind_of u) at (ap is_answer e))
  answered_cell (entered u m t w some proper at item seen there) q l r v e f =
      let g : answered (Entered m t) ≡ answered (Entered l r) = sym at ∙ e in
      let n : m ≡ l = cc in
      let h : Some (line p.place p.posts u t) ≡ Some (line p.place p.posts q r) = sym there ∙ (ap (λ k. slice_get journal (k - 1)) n ∙ f) in
      let k : line p.place p.posts u t ≡ line p.place p.posts q r = cc in
      subst (λ y. Carries (reply_item y) cell) (ap (λ (y : Line). y.reply) k) item
  answered_cell (full u w some at all seen) q l r v e f = absurd (let g : answered BookFull ≡ answered (Entered l r) = sym at ∙ e in cc)
  answered_cell (refused u w some push at seen) q l r v e f = absurd (let g : answered NoMemory ≡ answered (Entered l r) = sym at ∙ e in cc)
  answered_cell (barred u why w some is at seen) q l r v e f = absurd (let g : answered (Refused why) ≡ answered (Entered l r) = sym at ∙ e in cc)

  its_lines : Stands room journal control cell p.place p.posts p.standing p.mine
      → (calls_of p.place journal ≡ p.mine)
      ⊎ ((q : Request) × (l : ℕ) × (r : Reply) × (p.standing ≡ Waiting q) × (control ≡ answered (Entered l r))
      × (calls_of p.place journal ≡ p.mine ++ call l p.posts q r ∷ []))
  its_lines (fresh x w draft at seen) = inl seen
  its_lines (idle x w draft some at seen) = inl seen
  its_lines (unanswered q w proper some at item seen) = inl seen
  its_lines (entered q l r w some proper at item seen there) = inr (q, l, r, w, at, seen)
  its_lines (full q w some at all seen) = inl seen
  its_lines (refused q w some push at seen) = inl seen
  its_lines (barred q why w some is at seen) = inl seen

not_true : (b : Bool) → (b ≡ true → ⊥) → b ≡ false
not_true true h = absurd (h refl)
not_true false h = refl

above_next : (posts : ℕ) (standing : Standing) → above_mine posts standing ≤ posts + 1
above_next posts (Idle draft) = omega arith
above_next posts (Waiting q) = omega arith

-- no line of a pen's place has a serial above its last, where this is so of the calls that it has read
none_above : (journal : List Line) (p : PenState) → AllByRecursion (λ (c : Call). c.serial < above_mine p.posts p.standing) p.mine
    → (calls_of p.place journal ≡ p.mine) ⊎ ((q : Request) × (l : ℕ) × (r : Reply) × (calls_of p.place journal ≡ p.mine ++ call l p.posts q r ∷ []))
    → NoneAbove p.place p.posts journal
none_above journal p serials lines =
    let P : Call → Type 0 = λ c. c.serial < p.posts + 1 in
    let mine : AllByRecursion P p.mine =
    all_weaker (λ (c : Call). c.serial < above_mine p.posts p.standing) P p.mine (λ c h. omega (arith, h, above_next p.posts p.standing)) serials in
    lines_below 1 p.place (p.posts + 1) journal
    (⊎_elim
    (λ e. subst (AllByRecursion P) (sym e) mine)
    (λ t. subst (AllByRecursion P) (sym t.3) (all_more P p.mine (call t.1 p.posts t.0 t.2) mine (omega arith)))
    lines)

module _ (d : Desk) (journal : List Line) (chief : ℕ) (r : RuleAt d journal chief) where
  items_hold : (i : ℕ) (p : PenState) → Has d.views i p → ItemsClause d journal p
  items_hold i p a =
      let m = r.pens i p a in
      let c = d.control p.place in
      let x = d.item p.place in
      record {
        draft = λ y e. draft_stands d.room journal c x p.place p.posts p.mine p.standing (Some y) e m.stands;
        posted = posted_cell d.room journal c x p m m.stands;
        answered = answered_cell d.room journal c x p m m.stands;
        known = λ due y e f. subst (λ o. Carries o (d.item due.place)) f (r.due i p a due e).2;
        read = λ due y e f push.
            (let t = r.due i p a due e in
            let o = poster d journal chief r i p a due.place due.serial due.kind t.1 in
            let v = o.1 in
            let u = o.4 in
            let has = subst (λ k. Carries (request_item u.request) (d.item k)) o.3 u.item in
            let same : u.request ≡ Push y = is_push (d.item due.place) y u.request (u.kind ∙ push) has (subst (λ k. Carries k (d.item due.place)) f t.2) in
            (o.0, v, o.2, o.3, u.serial, u.waits ∙ ap Waiting same));
        seen = λ y e. (m.seen y e).2;
      }

  pub clauses_hold : Clauses d journal
  clauses_hold =
      record {
        lock = ⊎_elim
            (λ t. inl (t.0, t.1, λ i p a. not_true p.leading (λ l. not_both_locks d.held t.0 (r.led i p a l).1)))
            (λ t. inr (t.0, t.1, (chief, t.2.0, t.2.1, t.2.2, (r.led chief t.2.0 t.2.1 t.2.2).2, λ j q b l. (r.led j q b l).0)))
            r.lock;
        journal = record { legal = r.lawful.legal; rise = r.lawful.rise; heeds = r.lawful.heeds; within = r.lawful.within };
        controls = λ i p a.
            (let m = r.pens i p a in
            let c = d.control p.place in
            let x = d.item p.place in
            record {
              never = never_there d.room journal c x p m m.stands;
              idle = λ free. ⊎_elim (λ e. inl (e, m.blank e)) (λ e. inr e) (idle_there d.room journal c x p m m.stands free);
              waits = waiting_control d.room journal c x p m m.stands;
            });
        calls = λ i p a.
            (let m = r.pens i p a in record { lines = its_lines d.room journal (d.control p.place) (d.item p.place) p m m.stands; serials = m.looked });
        known = λ i p a. (r.pens i p a).known;
        own = λ i p a. (r.pens i p a).own;
        full = λ i p a. (r.pens i p a).filled;
        due = λ i p a due e. (let t = r.due i p a due e in (t.0, t.1));
        items = items_hold;
      }

  -- what a pen knows of the journal
  pub knows : (i : ℕ) (p : PenState) → Has d.views i p → Knows d.room p journal
  knows i p a =
      let m = r.pens i p a in
      record {
        legal = r.lawful.legal;
        rise = r.lawful.rise;
        within = r.lawful.within;
        known = m.known;
        lines = ⊎_elim (λ t. inl t) (λ t. inr (t.0, t.1, t.2, t.3, t.5)) (its_lines d.room journal (d.control p.place) (d.item p.place) p m m.stands);
        idle = λ free. (idle_stands d.room journal (d.control p.place) (d.item p.place) p.place p.posts p.mine p.standing free m.stands).1;
        serials = m.looked;
        filled = m.filled;
        used = none_above journal p m.looked
            (⊎_elim (λ t. inl t) (λ t. inr (t.0, t.1, t.2, t.5)) (its_lines d.room journal (d.control p.place) (d.item p.place) p m m.stands));
      }

pub rule_gives_clauses : RuleGivesClauses
rule_gives_clauses d m = (m.0, clauses_hold d m.0 m.1 m.2)

pub clauses_meet : QueueLaws → EveryRunMeetsClauses
clauses_meet laws places limits events d small run = rule_gives_clauses d (runs_meet laws places limits events d small run)

pub leaders_know : LeadersKnow
leaders_know d seat p m a leads = subst (Knows d.room p) (sym (m.2.led seat p a leads).2) (knows d m.0 m.1 m.2 seat p a)

pub home_is_known : HomeIsKnown
home_is_known d seat p book m a at_home =
    ⊎_elim
    (λ t.
    (let e : Some t.1.book ≡ Some book = sym t.1.is ∙ at_home in
    let f : t.1.book ≡ book = cc in (
      ap (λ (b : Volume). b.room) (sym f) ∙ t.1.room_is,
      subst (Knows d.room p) (sym t.1.journal_is ∙ ap (λ (b : Volume). b.journal) f) (knows d m.0 m.1 m.2 seat p a),
    )))
    (λ t. absurd (let e : None ≡ Some book = sym t.1 ∙ at_home in cc))
    m.2.lock

-- an item cell changes where its idle pen drafts, or the leader lays
stored_at : (d e : Desk) (k : ℕ) (x : Item) (place : ℕ) → e.item ≡ put d.item k x → (k ≡ place → ⊥) ⊎ (k ≡ place) → (e.item place ≡ d.item place) ⊎ (k ≡ place)
stored_at d e k x place same t = ⊎_elim (λ ne. inl (ap (λ (f : ℕ → Item). f place) same ∙ put_else d.item k x place (λ s. ne (sym s)))) (λ s. inr s) t

pub items_are_stored : ItemsAreStored
items_are_stored d e (Drafts i x) place m (p, a, free, item, same) =
    ⊎_elim (λ t. inl t) (λ s. inr (p, a, inl (free, s)))
    (stored_at d e p.place x place (ap (λ (y : Desk). y.item) same) (dite (ℕ_discrete p.place place) (λ s. inr s) (λ ne. inl ne)))
items_are_stored d e (LaysItem i x) place m (p, due, a, leads, is_due, plain, item, same) =
    ⊎_elim (λ t. inl t) (λ s. inr (p, a, inr (leads, (due, is_due, s, plain, ap d.control (sym s) ∙ (m.2.due i p a due is_due).1))))
    (stored_at d e due.place x place (ap (λ (y : Desk). y.item) same) (dite (ℕ_discrete due.place place) (λ s. inr s) (λ ne. inl ne)))
items_are_stored d e (Posts i q) place m (p, draft, a, free, few, proper, drafted, same) = inl (ap (λ (y : Desk). y.item place) same)
items_are_stored d e (Tries i) place m (p, a, t) = inl (⊎_elim (λ u. ap (λ (y : Desk). y.item place) u.1.2) (λ u. ap (λ (y : Desk). y.item place) u.1) t)
items_are_stored d e (Reads i k) place m (p, a, leads, inside, same) = inl (ap (λ (y : Desk). y.item place) same)
items_are_stored d e (ReadsItem i) place m (p, due, a, leads, is_due, push, same) = inl (ap (λ (y : Desk). y.item place) same)
items_are_stored d e (Answers i x) place m (p, due, q, a, leads, is_due, is_kind, known, laid, may, same) = inl (ap (λ (y : Desk). y.item place) same)
items_are_stored d e (Applies i q x) place m (p, a, leads, free, few, proper, may, same) = inl (ap (λ (y : Desk). y.item place) same)
items_are_stored d e (Archives i n) place m (p, a, leads, same) = inl (ap (λ (y : Desk). y.item place) same)
items_are_stored d e (Changes i c) place m (p, a, leads, same) = inl (ap (λ (y : Desk). y.item place) same)
items_are_stored d e (HandsOut i) place m (p, a, same) = inl (ap (λ (y : Desk). y.item place) same)
items_are_stored d e (Releases i) place m (p, a, leads, same) = inl (ap (λ (y : Desk). y.item place) same)
items_are_stored d e (ReleasesBy i q x) place m (p, a, leads, none, free, few, proper, may, same) = inl (ap (λ (y : Desk). y.item place) same)
items_are_stored d e (Looks i) place m (p, q, a, waits, same) = inl (ap (λ (y : Desk). y.item place) same)
items_are_stored d e (SeesItem i) place m (p, q, n, a, waits, own, has, same) = inl (ap (λ (y : Desk). y.item place) same)
items_are_stored d e (TakesItem i) place m (p, q, n, a, waits, own, has, same) = inl (ap (λ (y : Desk). y.item place) same)
