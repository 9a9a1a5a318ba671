-- What each kind of step tells and leaves.
use Rattle.std.proofs.Common.{Bool, ◌≡◌, ◌≢◌, ℕ, ◌<◌, ⊎_elim, true, false, List, ◌++◌, length, refl, ap, sym, ◌∙◌, subst, arith}
use Rattle.std.specs.Prelude.{Option, Some, None, ◌↔◌}
use Rattle.std.specs.List.{AllByRecursion}
use Rattle.pq_types.specs.Item.{Item}
use Rattle.pq_types.specs.Asked.{Request, Operation}
use Rattle.pq_types.specs.Operation.{Asked}
use Rattle.pq_types.specs.declared.request.Request.TheVariants.{Push, Pop, Least}
use Rattle.pq_types.specs.Asked.{Reply}
use Rattle.pq_types.specs.declared.answer.Reply.TheVariants as reply
use Rattle.pq_types.specs.Asked.{Answer}
use Rattle.pq_types.specs.declared.answer.Answer.TheVariants.{Entered, BookFull, NoMemory, Refused}
use Rattle.pq_types.specs.declared.control.Kind.TheVariants as kind
use Rattle.pq_types.specs.declared.control.Outcome.TheVariants as outcome
use Rattle.pq_types.specs.declared.control.Notice.{Notice}
use Rattle.pq_types.specs.declared.control.Notice.TheVariants as notice
use Rattle.pq_types.specs.declared.control.Control.{Control}
use Rattle.pq_types.specs.declared.control.Control.TheVariants.{Nothing, Posted, Answered}
use Rattle.pq_types.specs.Asked.{Line}
use Rattle.pq_types.specs.Control.{kind_of, request_item, notice_has_item, answer_item, reply_item, answer_with, answered, Carries, is_posted, is_answer, has_item}
use Rattle.pq_types.specs.History.{EndsAtShut, is_shut, MayDo}
use Rattle.pq_types.specs.declared.answer.Refusal.TheVariants.{Shut, Unarchived, Full}
use Rattle.pq_book.specs.Book.{Volume}
use Rattle.desk_core.specs.declared.model.Call.{Call}
use Rattle.desk_core.specs.declared.model.Standing.TheVariants.{Waiting}
use Rattle.desk_core.specs.declared.model.Due.{Due}
use Rattle.desk_core.specs.declared.model.Word.TheVariants as word
use Rattle.desk_core.specs.declared.model.PenState.{PenState}
use Rattle.desk_core.specs.Pen.{due_at, told_by, standing_told, mine_told, after_draft, after_post, after_lead, after_miss, after_read, after_read_item, after_lay, after_answer, after_apply, after_archive, after_change, after_hand_out, after_release, limits_in_hand, after_release_by, after_look, after_see, after_take}
use Rattle.desk_core.specs.Calls.{gained}
use Rattle.desk_core.specs.Desk.{Desk, time, Has, with_pen}
use Rattle.desk_core.specs.Steps.{Event, actor, Drafts, Posts, Tries, Reads, ReadsItem, LaysItem, Answers, Applies, Archives, Changes, HandsOut, Releases, ReleasesBy, Looks, SeesItem, TakesItem, Step}
use Rattle.desk_core.specs.Rule.{MeetsRule, above_mine}
use Rattle.desk_core.specs.Tells.{SameAsker, AfterDraft, AfterPost, AfterTry, AfterRead, AfterReadItem, AfterLay, AfterAnswer, AfterApply, AfterArchive, AfterChange, AfterHandOut, AfterRelease, AfterReleaseBy, AfterLook, AfterSee, AfterTake, Acted, DraftTells, PostTells, TryTells, ReadTells, ReadItemTells, LayItemTells, AnswerTells, ApplyTells, ArchiveTells, ChangeTells, HandOutTells, ReleaseTells, ReleaseByTells, LookTells, SeeItemTells, TakeItemTells}
use Rattle.desk_core.proofs.Loose.{MayTell, loosely}
use Rattle.desk_core.proofs.Records.{put_here}
use Rattle.desk_core.proofs.Views.{has_here}
use Rattle.desk_core.proofs.OwnControls.{Notes, read_notes, answer_notes}
use Rattle.desk_core.proofs.StepFacts.{not_both_locks, poster}
use Rattle.desk_core.proofs.Keeping.{who_waits}

-- what the event leaves, told of the acting pen before and after it
abbrev After : Event → Desk → Desk → PenState → PenState → Type 0
After (Drafts seat x) d d' p p' = AfterDraft d d' x p p'
After (Posts seat request) d d' p p' = AfterPost d d' request p p'
After (Tries seat) d d' p p' = AfterTry d d' p p'
After (Reads seat place) d d' p p' = AfterRead d d' place p p'
After (ReadsItem seat) d d' p p' = AfterReadItem d d' p p'
After (LaysItem seat x) d d' p p' = AfterLay d d' x p p'
After (Answers seat answer) d d' p p' = AfterAnswer d d' answer p p'
After (Applies seat request answer) d d' p p' = AfterApply d d' request answer p p'
After (Archives seat lines) d d' p p' = AfterArchive d d' lines p p'
After (Changes seat change) d d' p p' = AfterChange d d' change p p'
After (HandsOut seat) d d' p p' = AfterHandOut d d' p p'
After (Releases seat) d d' p p' = AfterRelease d d' p p'
After (ReleasesBy seat operation answer) d d' p p' = AfterReleaseBy d d' operation answer p p'
After (Looks seat) d d' p p' = AfterLook d d' p p'
After (SeesItem seat) d d' p p' = AfterSee d d' p p'
After (TakesItem seat) d d' p p' = AfterTake d d' p p'

abbrev Told : Event → Desk → Desk → Type 0
Told e d d' = Acted d d' (actor e) (After e d d')

noted_here : (place : ℕ) (p : PenState) (c own : Control) → Notes place p c own → place ≡ p.place → own ≡ c
noted_here place p c own h same = ⊎_elim (λ t. t.1) (λ t. absurd (t.0 same)) h

noted_else : (place : ℕ) (p : PenState) (c own : Control) → Notes place p c own → place ≢ p.place → own ≡ p.own
noted_else place p c own h ne = ⊎_elim (λ t. absurd (ne t.0)) (λ t. t.1) h

nothing_due : (place : ℕ) (c : Control) → is_posted c ≡ false → due_at place c ≡ None
nothing_due place Nothing e = refl
nothing_due place (Posted s k) e = absurd (let f : true ≡ false = e in cc)
nothing_due place (Answered n) e = refl

both_ways : {b : Bool} → b ≡ true → b ≡ false → ⊥
both_ways {b} t f = absurd (let e : true ≡ false = sym t ∙ f in cc)

-- BookFull is answered exactly where the journal is full
when_full : (room : ℕ) (hand : List Line) (q : Operation) (x : Answer) → MayTell room hand q x → (x ≡ BookFull) ↔ (length hand ≡ room)
when_full room hand q (Entered l r) may = (λ e. absurd (cc e), λ e. absurd (let lt = may.0 in omega arith))
when_full room hand q BookFull may = (λ e. may, λ e. refl)
when_full room hand q NoMemory may = (λ e. absurd (cc e), λ e. absurd (let lt = may.0 in omega arith))
when_full room hand q (Refused Shut) may = (λ e. absurd (cc e), λ e. absurd (let lt = may.0 in omega arith))
when_full room hand q (Refused Unarchived) may = (λ e. absurd (cc e), λ e. absurd (let lt = may.0 in omega arith))
when_full room hand q (Refused Full) may = (λ e. absurd (cc e), λ e. absurd (let lt = may.0 in omega arith))

-- Shut is answered exactly where a shut refuses it, and the journal has room
when_shut : (room : ℕ) (hand : List Line) (q : Operation) (x : Answer) → MayTell room hand q x
    → (x ≡ Refused Shut) ↔ ((length hand < room) × EndsAtShut q × (is_shut hand ≡ true))
when_shut room hand q (Entered l r) may = (λ e. absurd (cc e), λ e. absurd (both_ways e.2 (may.3 e.1)))
when_shut room hand q BookFull may = (λ e. absurd (cc e), λ e. absurd (let lt = e.0 in omega (arith, lt, may)))
when_shut room hand q NoMemory may = (λ e. absurd (cc e), λ e. absurd (both_ways e.2 (may.2 e.1)))
when_shut room hand q (Refused Shut) may = (λ e. may, λ e. refl)
when_shut room hand q (Refused Unarchived) may = (λ e. absurd (cc e), λ e. absurd (both_ways e.2 (may.1 e.1)))
when_shut room hand q (Refused Full) may = (λ e. absurd (cc e), λ e. absurd (both_ways e.2 (may.2 e.1)))

-- a pen knows the desk's room
may_here : (d : Desk) (i : ℕ) (p : PenState) → MeetsRule d → Has d.views i p → (q : Operation) (x : Answer) → MayDo (limits_in_hand p) p.hand q x → MayTell d.room p.hand q x
may_here d i p m a q x may = loosely (limits_in_hand p) d.room p.hand q x (m.2.pens i p a).told may

-- an item that the pen knows whole is one that it does not wait for
told_nothing : (c : Control) → is_answer c ≡ false → told_by c ≡ None
told_nothing Nothing e = refl
told_nothing (Posted s k) e = refl
told_nothing (Answered n) e = absurd (let f : true ≡ false = e in cc)

item_left : (c : Control) → has_item c ≡ true → told_by c ≡ None
item_left Nothing e = absurd (let f : false ≡ true = e in cc)
item_left (Posted s k) e = refl
item_left (Answered (notice.Entered l outcome.Pushed)) e = absurd (let f : false ≡ true = e in cc)
item_left (Answered (notice.Entered l outcome.Got)) e = refl
item_left (Answered (notice.Entered l outcome.Least)) e = refl
item_left (Answered (notice.Entered l outcome.Empty)) e = absurd (let f : false ≡ true = e in cc)
item_left (Answered notice.BookFull) e = absurd (let f : false ≡ true = e in cc)
item_left (Answered notice.NoMemory) e = absurd (let f : false ≡ true = e in cc)
item_left (Answered (notice.Refused why)) e = absurd (let f : false ≡ true = e in cc)

told_answer : (x : Answer) → answer_item x ≡ None → told_by (answered x) ≡ Some x
told_answer (Entered l reply.Pushed) e = refl
told_answer (Entered l (reply.Got y)) e = absurd (cc e)
told_answer (Entered l (reply.Least y)) e = absurd (cc e)
told_answer (Entered l reply.Empty) e = refl
told_answer BookFull e = refl
told_answer NoMemory e = refl
told_answer (Refused why) e = refl

still_waits : (p : PenState) (q : Request) (o : Option Answer) → p.standing ≡ Waiting q → o ≡ None
    → SameAsker p (record p { standing = standing_told q o; mine = mine_told p.mine p.posts q o })
still_waits p q o waits none = record { posts = refl; standing = ap (standing_told q) none ∙ sym waits; mine = ap (mine_told p.mine p.posts q) none }

looked : (d : Desk) (i : ℕ) (p : PenState) (q : Request) → MeetsRule d → Has d.views i p → p.standing ≡ Waiting q → (d' : Desk)
    → AfterLook d d' p (after_look p q (d.control p.place) (time d))
looked d i p q m a waits d' =
    let c = d.control p.place in
    record {
      request = q;
      waited = waits;
      own = refl;
      read = refl;
      not_yet = λ e. (let t = still_waits p q (told_by c) waits (told_nothing c e) in record { posts = refl; standing = t.standing; mine = t.mine });
      item_left = λ e. (let t = still_waits p q (told_by c) waits (item_left c e) in record { posts = refl; standing = t.standing; mine = t.mine });
      told = λ x e none.
          (let t : told_by c ≡ Some x = ap told_by e ∙ told_answer x none in
          (ap (standing_told q) t, ap (mine_told p.mine p.posts q) t));
      below = subst (λ o. AllByRecursion (λ (c : Call). c.serial < above_mine p.posts o) p.mine) waits (m.2.pens i p a).looked;
      posts = refl;
      lead = record { leading = refl; hand = refl; dealt = refl; due = refl; known = refl };
    }

-- an answer that has an item is an entered one, with that item
entered_item : (n : Notice) (cell : Item) → notice_has_item n ≡ true
    → (l : ℕ) × (r : Reply) × (Answered n ≡ answered (Entered l r)) × (answer_with n cell ≡ Entered l r) × (reply_item r ≡ Some cell)
entered_item (notice.Entered l outcome.Pushed) cell has = absurd (let f : false ≡ true = has in cc)
entered_item (notice.Entered l outcome.Got) cell has = (l, reply.Got cell, refl, refl, refl)
entered_item (notice.Entered l outcome.Least) cell has = (l, reply.Least cell, refl, refl, refl)
entered_item (notice.Entered l outcome.Empty) cell has = absurd (let f : false ≡ true = has in cc)
entered_item notice.BookFull cell has = absurd (let f : false ≡ true = has in cc)
entered_item notice.NoMemory cell has = absurd (let f : false ≡ true = has in cc)
entered_item (notice.Refused why) cell has = absurd (let f : false ≡ true = has in cc)

module _ (p : PenState) (q : Request) (n : Notice) (d d' : Desk) (waits : p.standing ≡ Waiting q) (here : d.control p.place ≡ Answered n) (has : notice_has_item n ≡ true) where
  see_tells : AfterSee d d' p (after_see p (d.item p.place))
  see_tells =
      let t = entered_item n (d.item p.place) has in
      record {
        request = q;
        number = t.0;
        reply = t.1;
        waited = waits;
        stands = here ∙ t.2;
        item = t.4;
        now = refl;
        read = refl;
        own = refl;
        asker = record { posts = refl; standing = refl; mine = refl };
        lead = record { leading = refl; hand = refl; dealt = refl; due = refl; known = refl };
      }

  take_tells : ((x : Item) → p.seen ≡ Some x → d.item p.place ≡ x) → AfterTake d d' p (after_take p q n (d.item p.place) (time d))
  take_tells known =
      let t = entered_item n (d.item p.place) has in
      record {
        request = q;
        number = t.0;
        reply = t.1;
        waited = waits;
        stands = here ∙ t.2;
        item = t.4;
        known = known;
        standing = refl;
        mine = ap (λ a. p.mine ++ gained p.posts q a) t.3;
        read = refl;
        posts = refl;
        own = refl;
        lead = record { leading = refl; hand = refl; dealt = refl; due = refl; known = refl };
      }

-- the item in the cell of a posted push is that of the pen which waits there
push_there : (cell : Item) (q : Request) → kind_of q ≡ kind.Push → Carries (request_item q) cell → q ≡ Push cell
push_there cell (Push x) e has = ap Push (sym has)
push_there cell Pop e has = absurd (cc e)
push_there cell Least e has = absurd (cc e)

poster_push : (d : Desk) (i : ℕ) (p : PenState) → MeetsRule d → Has d.views i p → (due : Due) → p.due ≡ Some due → due.kind ≡ kind.Push
    → (j : ℕ) × (q : PenState) × Has d.views j q × (q.place ≡ due.place) × (q.posts ≡ due.serial) × (q.standing ≡ Waiting (Push (d.item due.place)))
poster_push d i p m a due is_due push =
    let o = poster d m.0 m.1 m.2 i p a due.place due.serial due.kind (m.2.due i p a due is_due).1 in
    let u = o.4 in
    (o.0, o.1, o.2, o.3, u.serial, u.waits ∙ ap Waiting (push_there (d.item due.place) u.request (u.kind ∙ push) (subst (λ k. Carries (request_item u.request) (d.item k)) o.3 u.item)))

steps_tell : (d d' : Desk) (e : Event) → MeetsRule d → Step d e d' → Told e d d'
steps_tell d e (Drafts i x) m (p, a, free, item, same) =
    subst (Told (Drafts i x) d) (sym same) (
      p,
      after_draft p x,
      a,
      has_here d.views i p (after_draft p x) a,
      record {
        standing = refl;
        cell = put_here d.item p.place x;
        posts = refl;
        mine = refl;
        own = refl;
        lead = record { leading = refl; hand = refl; dealt = refl; due = refl; known = refl };
      },
    )
steps_tell d e (Posts i q) m (p, draft, a, free, few, proper, drafted, same) =
    subst (Told (Posts i q) d) (sym same) (
      p,
      after_post p q (time d),
      a,
      has_here d.views i p (after_post p q (time d)) a,
      record {
        standing = refl;
        posts = refl;
        stands = put_here d.control p.place _;
        own = refl;
        mine = refl;
        lead = record { leading = refl; hand = refl; dealt = refl; due = refl; known = refl };
      },
    )
steps_tell d e (Tries i) m (p, a, t) =
    ⊎_elim
    (λ u.
    (let book = u.1.0 in
    let w = after_lead p book in
    subst (Told (Tries i) d) (sym u.1.2) (
      p,
      w,
      a,
      has_here d.views i p w a,
      record {
        won = λ _. (refl, u.1.1 ∙ ap (λ n. Some (record book { room = n })) (⊎_elim (λ t. (let f : Some book ≡ Some t.1.book = sym u.1.1 ∙ t.1.is in let g : book ≡ t.1.book = cc in ap (λ (b : Volume). b.room) g ∙ (t.1.room_is ∙ sym (m.2.pens i p a).told))) (λ t. absurd (not_both_locks d.held u.0 t.0)) m.2.lock), refl, refl, refl);
        missed = λ h. absurd (not_both_locks d.held u.0 h);
        held = refl;
        read = ap (λ b. Some (word.Lock b)) (sym u.0);
        own = refl;
        asker = record { posts = refl; standing = refl; mine = refl };
      },
    )))
    (λ u.
    (let w = after_miss p in
    subst (Told (Tries i) d) (sym u.1) (
      p,
      w,
      a,
      has_here d.views i p w a,
      record {
        won = λ h. absurd (not_both_locks d.held h u.0);
        missed = λ _. record { leading = refl; hand = refl; dealt = refl; due = refl; known = refl };
        held = u.0;
        read = ap (λ b. Some (word.Lock b)) (sym u.0);
        own = refl;
        asker = record { posts = refl; standing = refl; mine = refl };
      },
    )))
    t
steps_tell d e (Reads i k) m (p, a, leads, inside, same) =
    let c = d.control k in
    let w = after_read p k c in
    subst (Told (Reads i k) d) (sym same) (
      p,
      w,
      a,
      has_here d.views i p w a,
      record {
        dealt = refl;
        read = refl;
        due = λ s kind e. ap (due_at k) e;
        none = λ e. nothing_due k c e;
        own_here = noted_here k p c w.own (read_notes p k c);
        own_else = noted_else k p c w.own (read_notes p k c);
        leading = refl;
        hand = refl;
        known = refl;
        asker = record { posts = refl; standing = refl; mine = refl };
      },
    )
steps_tell d e (ReadsItem i) m (p, due, a, leads, is_due, push, same) =
    let x = d.item due.place in
    let w = after_read_item p due x in
    subst (Told (ReadsItem i) d) (sym same) (
      p,
      w,
      a,
      has_here d.views i p w a,
      record {
        due = due;
        item = x;
        was = is_due;
        waits = poster_push d i p m a due is_due push;
        now = refl;
        read = refl;
        own = refl;
        round = record { leading = refl; hand = refl; dealt = refl; known = refl };
        asker = record { posts = refl; standing = refl; mine = refl };
      },
    )
steps_tell d e (LaysItem i x) m (p, due, a, leads, is_due, plain, item, same) =
    let w = after_lay p due x in
    subst (Told (LaysItem i x) d) (sym same) (
      p,
      w,
      a,
      has_here d.views i p w a,
      record {
        due = due;
        was = is_due;
        now = refl;
        cell = put_here d.item due.place x;
        own = refl;
        round = record { leading = refl; hand = refl; dealt = refl; known = refl };
        asker = record { posts = refl; standing = refl; mine = refl };
      },
    )
steps_tell d e (Answers i x) m (p, due, q, a, leads, is_due, is_kind, known, laid, may, same) =
    let w = after_answer p due q x in
    let o = who_waits d i p m a due is_due q is_kind known in
    subst (Told (Answers i x) d) (sym same) (
      p,
      w,
      a,
      has_here d.views i p w a,
      record {
        due = due;
        request = q;
        was = is_due;
        waits = (o.0, o.1, o.2, o.3, o.4, o.5);
        may = may;
        full = when_full d.room p.hand (Asked q) x (may_here d i p m a (Asked q) x may);
        shut = when_shut d.room p.hand (Asked q) x (may_here d i p m a (Asked q) x may);
        stands = put_here d.control due.place (answered x);
        hand = refl;
        done = refl;
        own_here = noted_here due.place p (answered x) w.own (answer_notes p due q x);
        own_else = noted_else due.place p (answered x) w.own (answer_notes p due q x);
        leading = refl;
        dealt = refl;
        known = refl;
        asker = record { posts = refl; standing = refl; mine = refl };
      },
    )
steps_tell d e (Applies i q x) m (p, a, leads, free, few, proper, may, same) =
    let w = after_apply p q x (time d) in
    subst (Told (Applies i q x) d) (sym same) (
      p,
      w,
      a,
      has_here d.views i p w a,
      record {
        leading = leads;
        hand = refl;
        may = may;
        full = when_full d.room p.hand (Asked q) x (may_here d i p m a (Asked q) x may);
        shut = when_shut d.room p.hand (Asked q) x (may_here d i p m a (Asked q) x may);
        posts = refl;
        mine = refl;
        below = subst (λ o. AllByRecursion (λ (c : Call). c.serial < above_mine p.posts o) p.mine) free.1 (m.2.pens i p a).looked;
        standing = refl;
        dealt = refl;
        due = refl;
        known = refl;
        own = refl;
        held = refl;
        home = refl;
        control = refl;
        cell = refl;
      },
    )
steps_tell d e (Archives i n) m (p, a, leads, same) =
    let w = after_archive p n in
    subst (Told (Archives i n) d) (sym same) (
      p,
      w,
      a,
      has_here d.views i p w a,
      record {
        book = refl;
        lead = record { leading = refl; hand = refl; dealt = refl; due = refl; known = refl };
        asker = record { posts = refl; standing = refl; mine = refl };
        own = refl;
        held = refl;
        home = refl;
      },
    )
steps_tell d e (Changes i c) m (p, a, leads, same) =
    let w = after_change p c in
    subst (Told (Changes i c) d) (sym same) (
      p,
      w,
      a,
      has_here d.views i p w a,
      record {
        book = refl;
        lead = record { leading = refl; hand = refl; dealt = refl; due = refl; known = refl };
        asker = record { posts = refl; standing = refl; mine = refl };
        own = refl;
        held = refl;
        home = refl;
      },
    )
steps_tell d e (HandsOut i) m (p, a, same) =
    let w = after_hand_out p in
    subst (Told (HandsOut i) d) (sym same) (
      p,
      w,
      a,
      has_here d.views i p w a,
      record {
        owed = refl;
        book = refl;
        lead = record { leading = refl; hand = refl; dealt = refl; due = refl; known = refl };
        asker = record { posts = refl; standing = refl; mine = refl };
        own = refl;
        held = refl;
        home = refl;
      },
    )
steps_tell d e (Releases i) m (p, a, leads, same) =
    let w = after_release p in
    subst (Told (Releases i) d) (sym same) (
      p,
      w,
      a,
      has_here d.views i p w a,
      record {
        leading = refl;
        held = refl;
        known = refl;
        home = refl;
        owed = refl;
        dealt = refl;
        due = refl;
        own = refl;
        asker = record { posts = refl; standing = refl; mine = refl };
      },
    )
steps_tell d e (ReleasesBy i q x) m (p, a, leads, none, free, few, proper, may, same) =
    let w = after_release_by p q x (time d) in
    subst (Told (ReleasesBy i q x) d) (sym same) (
      p,
      w,
      a,
      has_here d.views i p w a,
      record {
        leading = refl;
        held = refl;
        known = refl;
        home = refl;
        owed = refl;
        may = may;
        full = when_full d.room p.hand q x (may_here d i p m a q x may);
        shut = when_shut d.room p.hand q x (may_here d i p m a q x may);
        posts = refl;
        mine = refl;
        below = subst (λ o. AllByRecursion (λ (c : Call). c.serial < above_mine p.posts o) p.mine) free.1 (m.2.pens i p a).looked;
        standing = refl;
        dealt = refl;
        due = none;
        own = refl;
        control = refl;
        cell = refl;
      },
    )
steps_tell d e (Looks i) m (p, q, a, waits, same) =
    let w = after_look p q (d.control p.place) (time d) in
    subst (Told (Looks i) d) (sym same) (p, w, a, has_here d.views i p w a, looked d i p q m a waits (with_pen d i w))
steps_tell d e (SeesItem i) m (p, q, n, a, waits, own, has, same) =
    let w = after_see p (d.item p.place) in
    let here : d.control p.place ≡ Answered n = (m.2.pens i p a).own (ap is_answer own) ∙ own in
    subst (Told (SeesItem i) d) (sym same) (p, w, a, has_here d.views i p w a, see_tells p q n d (with_pen d i w) waits here has)
steps_tell d e (TakesItem i) m (p, q, n, a, waits, own, has, same) =
    let w = after_take p q n (d.item p.place) (time d) in
    let here : d.control p.place ≡ Answered n = (m.2.pens i p a).own (ap is_answer own) ∙ own in
    subst (Told (TakesItem i) d) (sym same) (p, w, a, has_here d.views i p w a, take_tells p q n d (with_pen d i w) waits here has (λ x e. ((m.2.pens i p a).seen x e).2))

pub draft_tells : DraftTells
draft_tells d d' seat x m step = steps_tell d d' (Drafts seat x) m step

pub post_tells : PostTells
post_tells d d' seat request m step = steps_tell d d' (Posts seat request) m step

pub try_tells : TryTells
try_tells d d' seat m step = steps_tell d d' (Tries seat) m step

pub read_tells : ReadTells
read_tells d d' seat place m step = steps_tell d d' (Reads seat place) m step

pub read_item_tells : ReadItemTells
read_item_tells d d' seat m step = steps_tell d d' (ReadsItem seat) m step

pub lay_item_tells : LayItemTells
lay_item_tells d d' seat x m step = steps_tell d d' (LaysItem seat x) m step

pub answer_tells : AnswerTells
answer_tells d d' seat answer m step = steps_tell d d' (Answers seat answer) m step

pub apply_tells : ApplyTells
apply_tells d d' seat request answer m step = steps_tell d d' (Applies seat request answer) m step

pub hand_out_tells : HandOutTells
hand_out_tells d d' seat m step = steps_tell d d' (HandsOut seat) m step

pub change_tells : ChangeTells
change_tells d d' seat change m step = steps_tell d d' (Changes seat change) m step

pub archive_tells : ArchiveTells
archive_tells d d' seat lines m step = steps_tell d d' (Archives seat lines) m step

pub release_tells : ReleaseTells
release_tells d d' seat m step = steps_tell d d' (Releases seat) m step

pub release_by_tells : ReleaseByTells
release_by_tells d d' seat operation answer m step = steps_tell d d' (ReleasesBy seat operation answer) m step

pub look_tells : LookTells
look_tells d d' seat m step = steps_tell d d' (Looks seat) m step

pub see_item_tells : SeeItemTells
see_item_tells d d' seat m step = steps_tell d d' (SeesItem seat) m step

pub take_item_tells : TakeItemTells
take_item_tells d d' seat m step = steps_tell d d' (TakesItem seat) m step
