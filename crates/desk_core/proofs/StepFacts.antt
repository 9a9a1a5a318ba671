-- One fact for each kind of step: from any desk that meets the rule to the next.
use Rattle.std.proofs.Common.{◌≡◌, ◌≢◌, ℕ, ◌+◌, ◌<◌, inl, inr, ⊎_elim, Bool, true, false, List, [], ◌++◌, length, refl, ap, sym, ◌∙◌, subst, arith, append-nil}
use Rattle.std.specs.Prelude.{Option, Some, None}
use Rattle.std.specs.List.{AllByRecursion}
use mathlib.Core.Logic.{dite}
use native.Mathlib.Decide.{ℕ_discrete}
use Rattle.pq_types.specs.Item.{Item}
use Rattle.pq_types.specs.Asked.{Request, Operation}
use Rattle.pq_types.specs.Operation.{Asked}
use Rattle.pq_types.specs.Entry.{IsProperOperationOf}
use Rattle.pq_types.specs.Asked.{Answer}
use Rattle.pq_types.specs.declared.answer.Answer.TheVariants.{Entered, BookFull, NoMemory, Refused}
use Rattle.pq_types.specs.declared.control.Kind.{Kind}
use Rattle.pq_types.specs.declared.control.Kind.TheVariants as kind
use Rattle.pq_types.specs.declared.control.Outcome.{Outcome}
use Rattle.pq_types.specs.declared.control.Notice.{Notice}
use Rattle.pq_types.specs.declared.control.Notice.TheVariants as notice
use Rattle.pq_types.specs.declared.control.Control.{Control}
use Rattle.pq_types.specs.declared.control.Control.TheVariants.{Nothing, Posted, Answered}
use Rattle.pq_types.specs.Asked.{Line}
use Rattle.pq_types.specs.declared.journal.TheConstants.{GREATEST_NUMBER}
use Rattle.pq_types.specs.Queue.{IsProperRequestOf}
use Rattle.pq_types.specs.Control.{kind_of, request_item, answer_item, answer_with, posted, answered, Carries, is_posted, is_answer}
use Rattle.pq_types.specs.History.{journal_by, journal_after, MayDo, MayAnswer}
use Rattle.wait_list.specs.Waiters.{Change}
use Rattle.pq_book.specs.Stock.{settled_book}
use Rattle.pq_book.specs.Book.{Volume}
use Rattle.desk_core.specs.declared.model.Call.{Call}
use Rattle.desk_core.specs.declared.model.Standing.{Standing}
use Rattle.desk_core.specs.declared.model.Standing.TheVariants.{Idle, Waiting}
use Rattle.desk_core.specs.declared.model.Due.{Due}
use Rattle.desk_core.specs.declared.model.PenState.{PenState}
use Rattle.desk_core.specs.Calls.{calls_of, gained}
use Rattle.desk_core.specs.Pen.{IsIdle, IsKept, after_draft, after_post, after_lead, after_miss, due_at, after_read, with_known, after_read_item, after_lay, after_answer, after_apply, after_archive, after_change, after_hand_out, after_release, after_release_by, book_with, book_in_hand, limits_in_hand, told_by, standing_told, mine_told, full_told, after_look, after_see, after_take}
use Rattle.desk_core.specs.Desk.{Desk, Has, put, with_control, with_cell, locked, freed, with_pen}
use Rattle.desk_core.specs.Rule.{PenRule, RuleAt, Stands, idle, unanswered, above_mine}
use Rattle.desk_core.proofs.Loose.{MayTell, loosely}
use Rattle.desk_core.proofs.Records.{put_here, put_else, no_post, not_nothing, kept_carries, same_request, with_cell_answer, notice_back, told_is}
use Rattle.desk_core.proofs.Journals.{QueueLaws, lines_below}
use Rattle.desk_core.proofs.Views.{has_here}
use Rattle.desk_core.proofs.OwnControls.{read_notes, answer_notes}
use Rattle.desk_core.proofs.Keeps.{keeps, lock_keeps, quiet, same_cells}
use Rattle.desk_core.proofs.Stand.{Unanswered, not_idle, idle_stands, draft_stands, draft_anew, posted_stands, plain_stands, answered_stands, gained_below, served_stands, own_stands, other_stands, known_keeps, lawful_keeps, keeps_unwritten, full_stays, full_bars, own_filled, full_stands}

pub not_both_locks : (held : Bool) → held ≡ false → held ≡ true → ⊥
not_both_locks held a b = let e : false ≡ true = sym a ∙ b in cc

-- what is due after a mail read stands posted there
due_read : (k : ℕ) (c : Control) (due : Due) → due_at k c ≡ Some due → (due.place ≡ k) × (c ≡ Posted due.serial due.kind) × (due.item ≡ None)
due_read k Nothing due e = absurd (cc e)
due_read k (Posted s kind) due e =
    let same : record { place = k; serial = s; kind = kind; item = None } ≡ due = cc in
    (ap (λ (x : Due). x.place) (sym same), ap (λ (x : Due). Posted x.serial x.kind) same, ap (λ (x : Due). x.item) (sym same))
due_read k (Answered n) due e = absurd (cc e)

pub one_due : (o : Option Due) (x y : Due) → o ≡ Some x → o ≡ Some y → x ≡ y
one_due o x y e f = let g : Some x ≡ Some y = sym e ∙ f in cc

idle_above : (posts : ℕ) (standing : Standing) → IsIdle standing → above_mine posts standing ≡ posts + 1
idle_above posts standing free = ap (above_mine posts) free.1

module _ (d : Desk) (journal : List Line) (chief : ℕ) (r : RuleAt d journal chief) (i : ℕ) (p : PenState) (a : Has d.views i p) where
  -- at the place of an idle pen nothing stands posted
  not_there : IsIdle p.standing → (k s : ℕ) (kind : Kind) → d.control k ≡ Posted s kind → k ≢ p.place
  not_there free k s kind e same =
      (idle_stands d.room journal (d.control p.place) (d.item p.place) p.place p.posts p.mine p.standing free (r.pens i p a).stands).0
      (ap is_posted (ap d.control (sym same) ∙ e))

  -- it drafts
  pub draft_keeps : (x : Item) → IsIdle p.standing → RuleAt (with_pen (with_cell d p.place x) i (after_draft p x)) journal chief
  draft_keeps x free =
      let mine = r.pens i p a in
      let item = put d.item p.place x in
      quiet d journal chief r i p a d.control item (after_draft p x) record {
        place = refl;
        leading = refl;
        hand = refl;
        others = λ k ne. (refl, put_else d.item p.place x k ne);
        posts = λ k s kind e. (refl, put_else d.item p.place x k (not_there free k s kind e));
        due = λ due e.
            (let t = r.due i p a due e in
            (t.0, t.1, subst (Carries due.item) (sym (put_else d.item p.place x due.place (not_there free due.place due.serial due.kind t.1))) t.2));
        pen = subst (λ y. PenRule d.room journal (d.control p.place) y (after_draft p x)) (sym (put_here d.item p.place x)) record {
          told = mine.told;
          counted = mine.counted;
          stands = draft_anew d.room journal (d.control p.place) (d.item p.place) p.place p.posts p.mine p.standing x free mine.stands;
          looked = subst (λ n. AllByRecursion (λ (c : Call). c.serial < n) p.mine) (idle_above p.posts p.standing free) mine.looked;
          known = mine.known;
          own = mine.own;
          blank = mine.blank;
          filled = mine.filled;
          barred = λ f u n o w. absurd (let e : Idle (Some x) ≡ Waiting u = w in cc);
          seen = λ y e. absurd (let t = mine.seen y e in not_idle p.standing t.0.0 t.0.1 free);
        };
      }

  -- it posts
  pub post_keeps : (now : ℕ) (q : Request) (draft : Option Item) → p.standing ≡ Idle draft → p.posts < GREATEST_NUMBER → IsProperRequestOf true q → IsKept (request_item q) draft
      → RuleAt (with_pen (with_control d p.place (posted (p.posts + 1) q)) i (after_post p q now)) journal chief
  post_keeps now q draft free few proper drafted =
      let mine = r.pens i p a in
      let c = posted (p.posts + 1) q in
      let was = idle_stands d.room journal (d.control p.place) (d.item p.place) p.place p.posts p.mine p.standing (draft, free) mine.stands in
      let control = put d.control p.place c in
      let there = not_there (draft, free) in
      quiet d journal chief r i p a control d.item (after_post p q now) record {
        place = refl;
        leading = refl;
        hand = refl;
        others = λ k ne. (put_else d.control p.place c k ne, refl);
        posts = λ k s kind e. (put_else d.control p.place c k (there k s kind e), refl);
        due = λ due e.
            (let t = r.due i p a due e in
            (t.0, put_else d.control p.place c due.place (there due.place due.serial due.kind t.1) ∙ t.1, t.2));
        pen = subst (λ y. PenRule d.room journal y (d.item p.place) (after_post p q now)) (sym (put_here d.control p.place c)) record {
          told = mine.told;
          counted = omega (arith, few);
          stands = unanswered q refl proper (omega arith) refl
              (kept_carries (request_item q) draft (d.item p.place) drafted (draft_stands d.room journal (d.control p.place) (d.item p.place) p.place p.posts p.mine p.standing draft free mine.stands))
              was.1;
          looked = subst (λ n. AllByRecursion (λ (c : Call). c.serial < n) p.mine) (idle_above p.posts p.standing (draft, free)) mine.looked;
          known = mine.known;
          own = λ h. absurd (let e : false ≡ true = h in cc);
          blank = λ h. absurd (let e : posted (p.posts + 1) q ≡ Nothing = h in cc);
          filled = mine.filled;
          barred = λ f u n o w h. (let e : posted (p.posts + 1) q ≡ Answered (notice.Entered n o) = h in cc);
          seen = λ y e. absurd (let t = mine.seen y e in not_idle p.standing t.0.0 t.0.1 (draft, free));
        };
      }

  -- it misses the lock
  pub miss_keeps : RuleAt (with_pen d i (after_miss p)) journal chief
  miss_keeps =
      let mine = r.pens i p a in
      same_cells d journal chief r i p a (after_miss p) refl refl refl (λ due e. r.due i p a due e)
      record { told = mine.told; counted = mine.counted; stands = mine.stands; looked = mine.looked; known = mine.known; own = mine.own; blank = mine.blank; filled = mine.filled; barred = mine.barred; seen = mine.seen }

  -- it wins the lock
  pub lead_keeps : (book : Volume) → d.held ≡ false → d.home ≡ Some book → RuleAt (with_pen (locked d) i (after_lead p book)) journal i
  lead_keeps book free at_home =
      let mine = r.pens i p a in
      let w = after_lead p book in
      let same : book.journal ≡ journal =
      ⊎_elim
      (λ t. let e : Some book ≡ Some t.1.book = sym at_home ∙ t.1.is in let f : book ≡ t.1.book = cc in ap (λ (b : Volume). b.journal) f ∙ t.1.journal_is)
      (λ t. absurd (not_both_locks d.held free t.0)) r.lock in
      keeps d journal chief r i p a true d.control d.item None journal i w record {
        place = refl;
        owned = r.seated.owned;
        lock = inr (refl, refl, (w, has_here d.views i p w a, refl));
        led = λ _. (refl, refl, same);
        led_others = λ j q ne b l. absurd (not_both_locks d.held free (r.led j q b l).1);
        due = λ due e. absurd (cc e);
        due_others = λ j q ne b due e. r.due j q b due e;
        lines = λ n k pens le e. e;
        grows = λ first e. e;
        lawful = r.lawful;
        pen = record { told = mine.told; counted = mine.counted; stands = mine.stands; looked = mine.looked; known = mine.known; own = mine.own; blank = mine.blank; filled = mine.filled; barred = mine.barred; seen = mine.seen };
        pen_others = λ j q ne b. r.pens j q b;
      }

  -- it reads the mail at a place
  pub read_keeps : (k : ℕ) → p.leading ≡ true → RuleAt (with_pen d i (after_read p k (d.control k))) journal chief
  read_keeps k leads =
      let mine = r.pens i p a in
      let c = d.control k in
      same_cells d journal chief r i p a (after_read p k c) refl refl refl
      (λ due e.
      (let t = due_read k c due e in
      (leads, ap d.control t.0 ∙ t.1, subst (λ o. Carries o (d.item due.place)) (sym t.2) tt)))
      record {
        told = mine.told;
        counted = mine.counted;
        stands = mine.stands;
        looked = mine.looked;
        known = mine.known;
        own = λ h.
            ⊎_elim
            (λ t. ap d.control (sym t.0) ∙ sym t.1)
            (λ t. mine.own (ap is_answer (sym t.1) ∙ h) ∙ sym t.1)
            (read_notes p k c);
        blank = λ h. ⊎_elim (λ t. t.1 ∙ (ap d.control t.0 ∙ h)) (λ t. t.1 ∙ mine.blank h) (read_notes p k c);
        filled = mine.filled;
        barred = mine.barred;
        seen = λ y e.
            (let t = mine.seen y e in (
              t.0,
              ⊎_elim (λ u. ap is_answer (u.1 ∙ (ap d.control u.0 ∙ mine.own t.1)) ∙ t.1) (λ u. ap is_answer u.1 ∙ t.1) (read_notes p k c),
              t.2,
            ));
      }

  -- it reads the item of what is due
  pub read_item_keeps : (due : Due) → p.due ≡ Some due → RuleAt (with_pen d i (after_read_item p due (d.item due.place))) journal chief
  read_item_keeps due is_due =
      let mine = r.pens i p a in
      let x = d.item due.place in
      let t = r.due i p a due is_due in
      same_cells d journal chief r i p a (after_read_item p due x) refl refl refl
      (λ other e.
      (let same : with_known due x ≡ other = cc in
      subst (λ (y : Due). (p.leading ≡ true) × (d.control y.place ≡ Posted y.serial y.kind) × Carries y.item (d.item y.place)) same (t.0, t.1, refl)))
      record { told = mine.told; counted = mine.counted; stands = mine.stands; looked = mine.looked; known = mine.known; own = mine.own; blank = mine.blank; filled = mine.filled; barred = mine.barred; seen = mine.seen }

  -- no other pen than the leader has anything due
  alone : p.leading ≡ true → (j : ℕ) (v : PenState) (other : Due) → Has d.views j v → v.due ≡ Some other → j ≡ i
  alone leads j v other b e = (r.led j v b (r.due j v b other e).0).0 ∙ sym (r.led i p a leads).0

  -- it lays the item of an answer at what is due
  pub lay_keeps : (due : Due) (x : Item) → p.due ≡ Some due → due.kind ≢ kind.Push
      → RuleAt (with_pen (with_cell d due.place x) i (after_lay p due x)) journal chief
  lay_keeps due x is_due plain =
      let mine = r.pens i p a in
      let k = due.place in
      let t = r.due i p a due is_due in
      let led = r.led i p a t.0 in
      let item = put d.item k x in
      let w = after_lay p due x in
      let pen : (v : PenState) → PenRule d.room journal (d.control v.place) (d.item v.place) v → PenRule d.room journal (d.control v.place) (item v.place) v =
      λ v m.
      record {
        told = m.told;
        counted = m.counted;
        stands = dite (ℕ_discrete v.place k)
            (λ e. plain_stands d.room journal (d.control v.place) (d.item v.place) v.place v.posts v.mine v.standing due.serial due.kind (item v.place) (ap d.control e ∙ t.1) plain m.stands)
            (λ ne. subst (λ y. Stands d.room journal (d.control v.place) y v.place v.posts v.standing v.mine) (sym (put_else d.item k x v.place ne)) m.stands);
        looked = m.looked;
        known = m.known;
        own = m.own;
        blank = m.blank;
        filled = m.filled;
        barred = m.barred;
        seen = λ y e.
            (let u = m.seen y e in
            let apart : v.place ≢ k = λ f. no_post (d.control k) due.serial due.kind t.1 (ap is_answer (ap d.control (sym f) ∙ m.own u.1) ∙ u.1) in
            (u.0, u.1, put_else d.item k x v.place apart ∙ u.2));
      } in
      let mine' = pen p mine in
      keeps d journal chief r i p a d.held d.control item d.home journal chief w record {
        place = refl;
        owned = r.seated.owned;
        lock = lock_keeps d journal chief r i p a d.control item w refl;
        led = λ _. led;
        led_others = λ j q ne b l. r.led j q b l;
        due = λ other e.
            (let same : with_known due x ≡ other = cc in
            subst (λ (y : Due). (p.leading ≡ true) × (d.control y.place ≡ Posted y.serial y.kind) × Carries y.item (item y.place)) same (t.0, t.1, put_here d.item k x));
        due_others = λ j q ne b other e. absurd (ne (alone t.0 j q other b e));
        lines = λ n j pens le e. e;
        grows = λ first e. e;
        lawful = r.lawful;
        pen = record { told = mine'.told; counted = mine'.counted; stands = mine'.stands; looked = mine'.looked; known = mine'.known; own = mine'.own; blank = mine'.blank; filled = mine'.filled; barred = mine'.barred; seen = mine'.seen };
        pen_others = λ j q ne b. pen q (r.pens j q b);
      }

  -- what the Book in its hand may answer, the rule allows
  pub may_answer : (q : Operation) (x : Answer) → p.leading ≡ true → MayDo (limits_in_hand p) p.hand q x → MayTell d.room journal q x
  may_answer q x leads may =
      subst (λ js. MayTell d.room js q x) (r.led i p a leads).2 (loosely (limits_in_hand p) d.room p.hand q x (r.pens i p a).told may)

  -- it hears that lines are archived
  pub archive_keeps : (n : ℕ) → RuleAt (with_pen d i (after_archive p n)) journal chief
  archive_keeps n =
      let mine = r.pens i p a in
      same_cells d journal chief r i p a (after_archive p n) refl refl refl (λ due e. r.due i p a due e)
      record { told = mine.told; counted = mine.counted; stands = mine.stands; looked = mine.looked; known = mine.known; own = mine.own; blank = mine.blank; filled = mine.filled; barred = mine.barred; seen = mine.seen }

  -- it hands out whom it has woken
  pub hand_out_keeps : RuleAt (with_pen d i (after_hand_out p)) journal chief
  hand_out_keeps =
      let mine = r.pens i p a in
      same_cells d journal chief r i p a (after_hand_out p) refl refl refl (λ due e. r.due i p a due e)
      record { told = mine.told; counted = mine.counted; stands = mine.stands; looked = mine.looked; known = mine.known; own = mine.own; blank = mine.blank; filled = mine.filled; barred = mine.barred; seen = mine.seen }

  -- it changes who waits
  pub change_keeps : (c : Change) → RuleAt (with_pen d i (after_change p c)) journal chief
  change_keeps c =
      let mine = r.pens i p a in
      same_cells d journal chief r i p a (after_change p c) refl refl refl (λ due e. r.due i p a due e)
      record { told = mine.told; counted = mine.counted; stands = mine.stands; looked = mine.looked; known = mine.known; own = mine.own; blank = mine.blank; filled = mine.filled; barred = mine.barred; seen = mine.seen }

  -- it releases the lock
  pub release_keeps : p.leading ≡ true → RuleAt (with_pen (freed d (book_in_hand p)) i (after_release p)) journal chief
  release_keeps leads =
      let mine = r.pens i p a in
      let t = r.led i p a leads in
      keeps d journal chief r i p a false d.control d.item (Some (settled_book (book_in_hand p))) journal chief (after_release p) record {
        place = refl;
        owned = r.seated.owned;
        lock = inl (refl, record { book = settled_book (book_in_hand p); is = refl; room_is = mine.told; journal_is = t.2 });
        led = λ l. absurd (cc l);
        led_others = λ j q ne b l. absurd (ne ((r.led j q b l).0 ∙ sym t.0));
        due = λ due e. absurd (cc e);
        due_others = λ j q ne b due e. absurd (ne (alone leads j q due b e));
        lines = λ n k pens le e. e;
        grows = λ first e. e;
        lawful = r.lawful;
        pen = record { told = mine.told; counted = mine.counted; stands = mine.stands; looked = mine.looked; known = ([], sym t.2 ∙ sym (append-nil p.hand)); own = mine.own; blank = mine.blank; filled = mine.filled; barred = mine.barred; seen = mine.seen };
        pen_others = λ j q ne b. r.pens j q b;
      }

  -- the serials that an idle pen has read are below its next one
  next_above : IsIdle p.standing → AllByRecursion (λ (c : Call). c.serial < p.posts + 1) p.mine
  next_above free = subst (λ n. AllByRecursion (λ (c : Call). c.serial < n) p.mine) (idle_above p.posts p.standing free) (r.pens i p a).looked

  -- and so are those of all lines of its place
  next_below : IsIdle p.standing → AllByRecursion (λ (c : Call). c.serial < p.posts + 1) (calls_of p.place journal)
  next_below free =
      subst (AllByRecursion (λ (c : Call). c.serial < p.posts + 1))
      (sym (idle_stands d.room journal (d.control p.place) (d.item p.place) p.place p.posts p.mine p.standing free (r.pens i p a).stands).1)
      (next_above free)

  -- it applies a request of its own, and goes on leading
  pub apply_keeps : (now : ℕ) → QueueLaws → (q : Request) (x : Answer) → p.leading ≡ true → IsIdle p.standing → p.posts < GREATEST_NUMBER
      → IsProperRequestOf true q → MayAnswer (limits_in_hand p) p.hand q x
      → RuleAt (with_pen d i (after_apply p q x now)) (journal_after journal p.place (p.posts + 1) q x) chief
  apply_keeps now laws q x leads free few proper may_hand =
      let mine = r.pens i p a in
      let t = r.led i p a leads in
      let k = p.place in
      let s = p.posts + 1 in
      let may = may_answer (Asked q) x leads may_hand in
      let js = journal_after journal k s q x in
      let w = after_apply p q x now in
      keeps d journal chief r i p a d.held d.control d.item d.home js chief w record {
        place = refl;
        owned = r.seated.owned;
        lock = ⊎_elim
            (λ u. absurd (not_both_locks d.held u.0 t.1))
            (λ u. inr (u.0, u.1, (w, subst (λ c. Has (with_pen d i w).views c w) t.0 (has_here d.views i p w a), leads)))
            r.lock;
        led = λ _. (t.0, t.1, ap (λ h. journal_after h k s q x) t.2);
        led_others = λ j v ne b l. absurd (ne ((r.led j v b l).0 ∙ sym t.0));
        due = λ due e. r.due i p a due e;
        due_others = λ j v ne b due e. r.due j v b due e;
        lines = λ n j pens le e. keeps_unwritten j k s (Asked q) x (λ f. let lt = pens i p a in omega (arith, f)) journal ∙ e;
        grows = λ first e. known_keeps journal first k s (Asked q) x e;
        lawful = lawful_keeps laws d.room journal k s (Asked q) x proper may (next_below free) r.lawful;
        pen = record {
          told = mine.told;
          counted = omega (arith, few);
          stands = own_stands d.room journal (d.control k) (d.item k) k p.posts p.mine p.standing (Asked q) x may free mine.stands;
          looked = gained_below s (Asked q) x p.mine (next_above free);
          known = known_keeps journal p.known k s (Asked q) x mine.known;
          own = mine.own;
          blank = mine.blank;
          filled = own_filled d.room journal k s (Asked q) x p.told_full may mine.filled;
          barred = λ f u n o w. absurd (let e : Idle None ≡ Waiting u = w in cc);
          seen = λ y e. absurd (let u = mine.seen y e in not_idle p.standing u.0.0 u.0.1 free);
        };
        pen_others = λ j v ne b.
            (let m = r.pens j v b in
            record {
              told = m.told;
              counted = m.counted;
              stands = other_stands d.room journal (d.control v.place) (d.item v.place) v.place v.posts v.mine v.standing k s (Asked q) x (λ e. ne (r.seated.apart j i v p b a (sym e))) may m.stands;
              looked = m.looked;
              known = known_keeps journal v.known k s (Asked q) x m.known;
              own = m.own;
              blank = m.blank;
              filled = λ h. full_stays d.room journal k s (Asked q) x may (m.filled h);
              barred = m.barred;
              seen = m.seen;
            });
      }

  -- it releases the lock with an operation of its own
  pub release_by_keeps : (now : ℕ) → QueueLaws → (q : Operation) (x : Answer) → p.leading ≡ true → p.due ≡ None → IsIdle p.standing → p.posts < GREATEST_NUMBER
      → IsProperOperationOf true q → MayDo (limits_in_hand p) p.hand q x
      → RuleAt (with_pen (freed d (book_with p (journal_by p.hand p.place (p.posts + 1) q x))) i (after_release_by p q x now)) (journal_by journal p.place (p.posts + 1) q x) chief
  release_by_keeps now laws q x leads none free few proper may_hand =
      let mine = r.pens i p a in
      let t = r.led i p a leads in
      let k = p.place in
      let s = p.posts + 1 in
      let may = may_answer q x leads may_hand in
      let js = journal_by journal k s q x in
      let hand = journal_by p.hand k s q x in
      let same : hand ≡ js = ap (λ h. journal_by h k s q x) t.2 in
      keeps d journal chief r i p a false d.control d.item (Some (settled_book (book_with p hand))) js chief (after_release_by p q x now) record {
        place = refl;
        owned = r.seated.owned;
        lock = inl (refl, record { book = settled_book (book_with p hand); is = refl; room_is = mine.told; journal_is = same });
        led = λ l. absurd (cc l);
        led_others = λ j v ne b l. absurd (ne ((r.led j v b l).0 ∙ sym t.0));
        due = λ due e. absurd (let f : None ≡ Some due = sym none ∙ e in cc);
        due_others = λ j v ne b due e. absurd (ne (alone leads j v due b e));
        lines = λ n j pens le e. keeps_unwritten j k s q x (λ f. let lt = pens i p a in omega (arith, f)) journal ∙ e;
        grows = λ first e. known_keeps journal first k s q x e;
        lawful = lawful_keeps laws d.room journal k s q x proper may (next_below free) r.lawful;
        pen = record {
          told = mine.told;
          counted = omega (arith, few);
          stands = own_stands d.room journal (d.control k) (d.item k) k p.posts p.mine p.standing q x may free mine.stands;
          looked = gained_below s q x p.mine (next_above free);
          known = ([], sym same ∙ sym (append-nil hand));
          own = mine.own;
          blank = mine.blank;
          filled = own_filled d.room journal k s q x p.told_full may mine.filled;
          barred = λ f u n o w. absurd (let e : Idle None ≡ Waiting u = w in cc);
          seen = λ y e. absurd (let u = mine.seen y e in not_idle p.standing u.0.0 u.0.1 free);
        };
        pen_others = λ j v ne b.
            (let m = r.pens j v b in
            record {
              told = m.told;
              counted = m.counted;
              stands = other_stands d.room journal (d.control v.place) (d.item v.place) v.place v.posts v.mine v.standing k s q x (λ e. ne (r.seated.apart j i v p b a (sym e))) may m.stands;
              looked = m.looked;
              known = known_keeps journal v.known k s q x m.known;
              own = m.own;
              blank = m.blank;
              filled = λ h. full_stays d.room journal k s q x may (m.filled h);
              barred = m.barred;
              seen = m.seen;
            });
      }

  -- an answer to the request of a waiting pen, read whole, makes it idle
  told_whole : (q : Request) (x : Answer) → p.standing ≡ Waiting q → d.control p.place ≡ answered x → Carries (answer_item x) (d.item p.place)
      → (0 < p.posts) × (calls_of p.place journal ≡ p.mine ++ gained p.posts q x)
  told_whole q x waits e has = answered_stands d.room journal (d.control p.place) (d.item p.place) p.place p.posts p.mine p.standing q x waits e has (r.pens i p a).stands

  below_posts : (q : Request) → p.standing ≡ Waiting q → AllByRecursion (λ (c : Call). c.serial < p.posts) p.mine
  below_posts q waits = subst (λ o. AllByRecursion (λ (c : Call). c.serial < above_mine p.posts o) p.mine) waits (r.pens i p a).looked

  -- it looks at the control of its own place
  looked : (q : Request) → p.standing ≡ Waiting q → (o : Option Answer) → told_by (d.control p.place) ≡ o
      → Stands d.room journal (d.control p.place) (d.item p.place) p.place p.posts (standing_told q o) (mine_told p.mine p.posts q o)
      × AllByRecursion (λ (c : Call). c.serial < above_mine p.posts (standing_told q o)) (mine_told p.mine p.posts q o)
  looked q waits None e =
      (subst (λ s. Stands d.room journal (d.control p.place) (d.item p.place) p.place p.posts s p.mine) waits (r.pens i p a).stands, below_posts q waits)
  looked q waits (Some x) e =
      let t = told_is (d.control p.place) x e in
      let whole = told_whole q x waits t.0 (subst (λ o. Carries o (d.item p.place)) (sym t.1) tt) in
      (idle None refl tt whole.0 (ap is_answer t.0) whole.1, gained_below p.posts (Asked q) x p.mine (below_posts q waits))

  -- where it is told that the journal is full, it is
  filled_there : (q : Request) → p.standing ≡ Waiting q → (o : Option Answer) → told_by (d.control p.place) ≡ o → full_told p.told_full o ≡ true → length journal ≡ d.room
  filled_there q waits None e h = (r.pens i p a).filled h
  filled_there q waits (Some (Entered n y)) e h = (r.pens i p a).filled h
  filled_there q waits (Some BookFull) e h =
      full_stands d.room journal (d.control p.place) (d.item p.place) p.place p.posts p.mine p.standing q waits (told_is (d.control p.place) BookFull e).0 (r.pens i p a).stands
  filled_there q waits (Some NoMemory) e h = (r.pens i p a).filled h
  filled_there q waits (Some (Refused why)) e h = (r.pens i p a).filled h

  -- and no entered answer is there, as long as it waits
  barred_there : (q : Request) → p.standing ≡ Waiting q → (o : Option Answer) → full_told p.told_full o ≡ true → (u : Request) (n : ℕ) (y : Outcome)
      → standing_told q o ≡ Waiting u → d.control p.place ≢ Answered (notice.Entered n y)
  barred_there q waits None f u n y w h = (r.pens i p a).barred f q n y waits h
  barred_there q waits (Some x) f u n y w h = let e : Idle None ≡ Waiting u = w in cc

  pub look_keeps : (now : ℕ) (q : Request) → p.standing ≡ Waiting q → RuleAt (with_pen d i (after_look p q (d.control p.place) now)) journal chief
  look_keeps now q waits =
      let mine = r.pens i p a in
      let t = looked q waits (told_by (d.control p.place)) refl in
      same_cells d journal chief r i p a (after_look p q (d.control p.place) now) refl refl refl (λ due e. r.due i p a due e)
      record {
        told = mine.told;
        counted = mine.counted;
        stands = t.0;
        looked = t.1;
        known = mine.known;
        own = λ _. refl;
        blank = λ h. h;
        filled = filled_there q waits (told_by (d.control p.place)) refl;
        barred = barred_there q waits (told_by (d.control p.place));
        seen = λ y e. absurd (cc e);
      }

  -- it reads a word of the item of its answer
  pub see_keeps : (q : Request) → p.standing ≡ Waiting q → is_answer p.own ≡ true → RuleAt (with_pen d i (after_see p (d.item p.place))) journal chief
  see_keeps q waits answered_own =
      let mine = r.pens i p a in
      let cell = d.item p.place in
      same_cells d journal chief r i p a (after_see p cell) refl refl refl (λ due e. r.due i p a due e)
      record {
        told = mine.told;
        counted = mine.counted;
        stands = mine.stands;
        looked = mine.looked;
        known = mine.known;
        own = mine.own;
        blank = mine.blank;
        filled = mine.filled;
        barred = mine.barred;
        seen = λ x e. ((q, waits), answered_own, (let f : Some cell ≡ Some x = e in cc));
      }

  -- it takes the item of its answer
  pub take_keeps : (now : ℕ) (q : Request) (n : Notice) → p.standing ≡ Waiting q → p.own ≡ Answered n
      → RuleAt (with_pen d i (after_take p q n (d.item p.place) now)) journal chief
  take_keeps now q n waits is_own =
      let mine = r.pens i p a in
      let cell = d.item p.place in
      let x = answer_with n cell in
      let here : d.control p.place ≡ Answered n = mine.own (ap is_answer is_own) ∙ is_own in
      let whole = told_whole q x waits (here ∙ ap Answered (sym (notice_back n cell))) (with_cell_answer n cell) in
      same_cells d journal chief r i p a (after_take p q n cell now) refl refl refl (λ due e. r.due i p a due e)
      record {
        told = mine.told;
        counted = mine.counted;
        stands = idle None refl tt whole.0 (ap is_answer here) whole.1;
        looked = gained_below p.posts (Asked q) x p.mine (below_posts q waits);
        known = mine.known;
        own = mine.own;
        blank = mine.blank;
        filled = mine.filled;
        barred = λ f u k o w. absurd (let e : Idle None ≡ Waiting u = w in cc);
        seen = λ y e. absurd (cc e);
      }

  -- what a post that stands unanswered says of its pen
  pub poster : (k s : ℕ) (kind : Kind) → d.control k ≡ Posted s kind
      → (j : ℕ) × (v : PenState) × Has d.views j v × (v.place ≡ k) × Unanswered journal (d.item v.place) v.place v.posts v.standing v.mine s kind
  poster k s kind e =
      let owner = r.seated.owned k (not_nothing (d.control k) s kind e) in
      let v = owner.1 in
      (owner.0, v, owner.2, owner.3, posted_stands d.room journal (d.control v.place) (d.item v.place) v.place v.posts v.mine v.standing s kind (ap d.control owner.3 ∙ e) (r.pens owner.0 v owner.2).stands)

  -- the serials of a place's lines are below that of the post that stands there
  pub posted_below : (k s : ℕ) (kind : Kind) → d.control k ≡ Posted s kind → AllByRecursion (λ (c : Call). c.serial < s) (calls_of k journal)
  posted_below k s kind e =
      let o = poster k s kind e in
      let v = o.1 in
      let u = o.4 in
      subst (λ (y : ℕ). AllByRecursion (λ (c : Call). c.serial < s) (calls_of y journal)) o.3
      (subst (AllByRecursion (λ (c : Call). c.serial < s)) (sym u.lines)
      (subst (λ (y : ℕ). AllByRecursion (λ (c : Call). c.serial < y) v.mine) u.serial
      (subst (λ (y : Standing). AllByRecursion (λ (c : Call). c.serial < above_mine v.posts y) v.mine) u.waits (r.pens o.0 v o.2).looked)))

  -- the same of the journal in the leader's hand
  pub hand_below : (k s : ℕ) (kind : Kind) → p.leading ≡ true → d.control k ≡ Posted s kind → AllByRecursion (λ (l : Line). k ≡ l.place → l.serial < s) p.hand
  hand_below k s kind leads e =
      subst (AllByRecursion (λ (l : Line). k ≡ l.place → l.serial < s)) (sym (r.led i p a leads).2) (lines_below 1 k s journal (posted_below k s kind e))

  -- it answers what is due
  pub answer_keeps : QueueLaws → (due : Due) (q : Request) (x : Answer) → p.due ≡ Some due → kind_of q ≡ due.kind → IsKept (request_item q) due.item
      → IsKept (answer_item x) due.item → MayAnswer (limits_in_hand p) p.hand q x
      → RuleAt (with_pen (with_control d due.place (answered x)) i (after_answer p due q x)) (journal_after journal due.place due.serial q x) chief
  answer_keeps laws due q x is_due is_kind known laid may_hand =
      let k = due.place in
      let s = due.serial in
      let c = answered x in
      let dd = r.due i p a due is_due in
      let leads = dd.0 in
      let t = r.led i p a leads in
      let may = may_answer (Asked q) x leads may_hand in
      let asked : Carries (request_item q) (d.item k) = kept_carries (request_item q) due.item (d.item k) known dd.2 in
      let gives : Carries (answer_item x) (d.item k) = kept_carries (answer_item x) due.item (d.item k) laid dd.2 in
      let js = journal_after journal k s q x in
      let control = put d.control k c in
      let w = after_answer p due q x in
      let owner = poster k s due.kind dd.1 in
      let here = put_here d.control k c in
      let beside : (j : ℕ) → j ≢ k → control j ≡ d.control j = λ j ne. put_else d.control k c j ne in
      let own_request : (v : PenState) → v.place ≡ k → (u : Unanswered journal (d.item v.place) v.place v.posts v.standing v.mine s due.kind) → u.request ≡ q =
      λ v e u. same_request (d.item k) u.request q (subst (λ j. Carries (request_item u.request) (d.item j)) e u.item) asked (u.kind ∙ sym is_kind) in
      let there : (v : PenState) → PenRule d.room journal (d.control v.place) (d.item v.place) v → v.place ≡ k → Unanswered journal (d.item v.place) v.place v.posts v.standing v.mine s due.kind =
      λ v m e. posted_stands d.room journal (d.control v.place) (d.item v.place) v.place v.posts v.mine v.standing s due.kind (ap d.control e ∙ dd.1) m.stands in
      let stands : (v : PenState) → PenRule d.room journal (d.control v.place) (d.item v.place) v → Stands d.room js (control v.place) (d.item v.place) v.place v.posts v.standing v.mine =
      λ v m.
      dite (ℕ_discrete v.place k)
      (λ e.
      (let u = there v m e in
      subst (λ y. Stands d.room js y (d.item v.place) v.place v.posts v.standing v.mine) (sym (ap control e ∙ here))
      (subst (λ y. Stands d.room (journal_after journal y s q x) c (d.item v.place) v.place v.posts v.standing v.mine) e
      (subst (λ y. Stands d.room (journal_after journal v.place y q x) c (d.item v.place) v.place v.posts v.standing v.mine) u.serial
      (served_stands d.room journal c (d.item v.place) v.place v.posts v.mine v.standing laws.reply q x r.room_in_range r.lawful.items may (subst (λ y. Carries (answer_item x) (d.item y)) (sym e) gives) (u.waits ∙ ap Waiting (own_request v e u)) u.some u.lines)))))
      (λ ne.
      subst (λ y. Stands d.room js y (d.item v.place) v.place v.posts v.standing v.mine) (sym (beside v.place ne))
      (other_stands d.room journal (d.control v.place) (d.item v.place) v.place v.posts v.mine v.standing k s (Asked q) x (λ e. ne (sym e)) may m.stands)) in
      let own : (v : PenState) → PenRule d.room journal (d.control v.place) (d.item v.place) v → is_answer v.own ≡ true → control v.place ≡ v.own =
      λ v m h.
      dite (ℕ_discrete v.place k)
      (λ e. absurd (no_post (d.control k) s due.kind dd.1 (ap is_answer (ap d.control (sym e) ∙ m.own h) ∙ h)))
      (λ ne. beside v.place ne ∙ m.own h) in
      let blank : (v : PenState) → PenRule d.room journal (d.control v.place) (d.item v.place) v → control v.place ≡ Nothing → v.own ≡ Nothing =
      λ v m h.
      dite (ℕ_discrete v.place k)
      (λ e. absurd (let f : answered x ≡ Nothing = sym (ap control e ∙ here) ∙ h in cc))
      (λ ne. m.blank (sym (beside v.place ne) ∙ h)) in
      let barred : (v : PenState) → PenRule d.room journal (d.control v.place) (d.item v.place) v → v.told_full ≡ true → (u : Request) (n : ℕ) (o : Outcome) → v.standing ≡ Waiting u → control v.place ≢ Answered (notice.Entered n o) =
      λ v m f u n o w h.
      dite (ℕ_discrete v.place k)
      (λ e. full_bars d.room journal (Asked q) x may (m.filled f) n o (sym (ap control e ∙ here) ∙ h))
      (λ ne. m.barred f u n o w (sym (beside v.place ne) ∙ h)) in
      let mine = r.pens i p a in
      let proper : IsProperRequestOf true q = subst (IsProperRequestOf true) (own_request owner.1 owner.3 owner.4) owner.4.proper in
      keeps d journal chief r i p a d.held control d.item d.home js chief w record {
        place = refl;
        owned = λ j ne. dite (ℕ_discrete j k) (λ e. (owner.0, owner.1, owner.2, owner.3 ∙ sym e)) (λ other. r.seated.owned j (λ z. ne (beside j other ∙ z)));
        lock = ⊎_elim
            (λ u. absurd (not_both_locks d.held u.0 t.1))
            (λ u. inr (u.0, u.1, (w, subst (λ c. Has (with_pen d i w).views c w) t.0 (has_here d.views i p w a), leads)))
            r.lock;
        led = λ _. (t.0, t.1, ap (λ h. journal_after h k s q x) t.2);
        led_others = λ j v ne b l. absurd (ne ((r.led j v b l).0 ∙ sym t.0));
        due = λ other e. absurd (cc e);
        due_others = λ j v ne b other e. absurd (ne (alone leads j v other b e));
        lines = λ m j pens le e. keeps_unwritten j k s (Asked q) x (λ f. let lt = pens owner.0 owner.1 owner.2 in let g = owner.3 in omega arith) journal ∙ e;
        grows = λ first e. known_keeps journal first k s (Asked q) x e;
        lawful = lawful_keeps laws d.room journal k s (Asked q) x proper may (posted_below k s due.kind dd.1) r.lawful;
        pen = record {
          told = mine.told;
          counted = mine.counted;
          stands = stands p mine;
          looked = mine.looked;
          known = known_keeps journal p.known k s (Asked q) x mine.known;
          own = λ h.
              ⊎_elim
              (λ u. ap control (sym u.0) ∙ (here ∙ sym u.1))
              (λ u. own p mine (ap is_answer (sym u.1) ∙ h) ∙ sym u.1)
              (answer_notes p due q x);
          blank = λ h.
              ⊎_elim
              (λ u. absurd (let f : answered x ≡ Nothing = sym here ∙ (ap control u.0 ∙ h) in cc))
              (λ u. u.1 ∙ blank p mine h)
              (answer_notes p due q x);
          filled = λ h. full_stays d.room journal k s (Asked q) x may (mine.filled h);
          barred = barred p mine;
          seen = λ y e.
              (let u = mine.seen y e in (u.0, ⊎_elim (λ z. ap is_answer z.1) (λ z. ap is_answer z.1 ∙ u.1) (answer_notes p due q x), u.2));
        };
        pen_others = λ j v ne b.
            (let m = r.pens j v b in
            record { told = m.told; counted = m.counted; stands = stands v m; looked = m.looked; known = known_keeps journal v.known k s (Asked q) x m.known; own = own v m; blank = blank v m; filled = λ h. full_stays d.room journal k s (Asked q) x may (m.filled h); barred = barred v m; seen = m.seen });
      }
