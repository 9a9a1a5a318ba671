-- What is true of the Book, at home or in the leader's hand, over moves and runs: a statement that each step of the leader
-- keeps, with what the archived lines and the changes of the list make of it.
use Rattle.std.proofs.Common.{◌≡◌, ℕ, ◌+◌, ⊎_elim, true, false, List, [], ◌∷◌, ◌++◌, length, set, refl, ap, sym, ◌∙◌, subst}
use Rattle.std.specs.Prelude.{Some, None, min}
use Rattle.pq_types.specs.Asked.{Operation, Answer}
use Rattle.pq_types.specs.Item.{Item}
use Rattle.pq_types.specs.Operation.{Asked}
use Rattle.pq_types.specs.declared.control.Control.{Control}
use Rattle.pq_types.specs.Control.{posted, answered}
use Rattle.pq_types.specs.History.{MayDo, journal_by}
use Rattle.wait_list.specs.Waiters.{Change, changed}
use Rattle.pq_book.specs.Book.{Volume, limits_of}
use Rattle.pq_book.specs.Stock.{with_waiters, settled_book}
use Rattle.desk_core.specs.declared.model.PenState.{PenState}
use Rattle.desk_core.specs.declared.model.View.{View}
use Rattle.desk_core.specs.declared.model.View.TheVariants.{Holder, Note, Testimony}
use Rattle.desk_core.specs.Pen.{allowed_by, book_with, book_in_hand, limits_in_hand, after_draft, after_post, after_lead, after_miss, after_read, after_read_item, after_lay, after_answer, after_apply, after_archive, after_change, after_hand_out, after_release, after_release_by, after_look, after_see, after_take}
use Rattle.desk_core.specs.Desk.{Desk, Has, time, put}
use Rattle.desk_core.specs.Steps.{Event, Drafts, Posts, Tries, Reads, ReadsItem, LaysItem, Answers, Applies, Archives, Changes, HandsOut, Releases, ReleasesBy, Looks, SeesItem, TakesItem, Step}
use Rattle.desk_core.specs.Rule.{MeetsRule}
use Rattle.desk_core.specs.Notes.{after_catch_up, after_writing, after_hearing}
use Rattle.desk_core.specs.Testimonies.{after_retiring, after_sleeping, after_waking}
use Rattle.desk_core.specs.Dealing.{Move, Deals, Takes, CatchesUp, Writes, Hears, Copies, Testifies, Retires, Sleeps, Wakes, Gathers, DealsPen, Happens, DealtRun}
use Rattle.desk_core.specs.Archiving.{archived_in, archived_by}
use Rattle.desk_core.specs.Waiters.{changes_in, changes_by}
use Rattle.desk_core.specs.declared.model.Duty.TheVariants.{Retired, Asleep}
use Rattle.desk_core.proofs.Journals.{QueueLaws}
use Rattle.desk_core.proofs.Views.{becomes, each_after}
use Rattle.desk_core.proofs.StepFacts.{not_both_locks}
use Rattle.desk_core.proofs.Notes.{OnlyKnow, caught_up_at, written, heard, copied, testified, set_aside, woken, gathered}
use Rattle.desk_core.proofs.Splits.{each_dealt}
use Rattle.desk_core.proofs.TakeTurns.{moves_keep}

-- a statement of a Book in the leader's hand and of one at home, about some x; what lines that are archived and changes of the
-- list make of x; and that the steps of a leader keep it
pub record Keeping (X : Type 0) : Type 1 where
  pub in_hand : X → Volume → Type 0
  pub at_home : X → Volume → Type 0
  pub archive : X → ℕ → X
  pub change : X → Change → X
  pub leads : (x : X) (b : Volume) → at_home x b → in_hand x b
  pub answers :
      (x : X) (b : Volume) (place serial : ℕ) (o : Operation) (a : Answer) → in_hand x b → MayDo (limits_of b) b.journal o a
      → in_hand x (record b { journal = journal_by b.journal place serial o a })
  pub archives :
      (x : X) (b : Volume) (n : ℕ) → in_hand x b
      → in_hand (archive x (min n (length b.journal))) (record b { allowed = allowed_by b.room b.allowed (min n (length b.journal)) })
  pub changes : (x : X) (b : Volume) (c : Change) → in_hand x b → in_hand (change x c) (with_waiters b (changed c b.waiters))
  pub settles : (x : X) (b : Volume) → in_hand x b → at_home x (settled_book b)

pub record Held {X : Type 0} (k : Keeping X) (x : X) (d : Desk) : Type 0 where
  pub home : (book : Volume) → d.home ≡ Some book → k.at_home x book
  pub hand : (i : ℕ) (p : PenState) → Has d.views i p → p.leading ≡ true → k.in_hand x (book_in_hand p)

-- what these make of x, one after another
abbrev pub on_all : {X A : Type 0} → (X → A → X) → X → List A → X
on_all f x [] = x
on_all f x (b ∷ bs) = on_all f (f x b) bs

pub on_none : {X A : Type 0} (x : X) (bs : List A) → on_all (λ y b. y) x bs ≡ x
on_none x [] = refl
on_none x (b ∷ bs) = on_none x bs

abbrev pub so_far : {X : Type 0} → Keeping X → List ℕ → List Change → X → X
so_far k ns cs x = on_all k.change (on_all k.archive x ns) cs

module _ {X : Type 0} (k : Keeping X) (d : Desk) (m : MeetsRule d) (x : X) (h : Held k x d) (i : ℕ) (p : PenState) (a : Has d.views i p) where
  -- the pen is another, and what it has in its hand, if it leads, fits
  pen_with : (control : ℕ → Control) (item : ℕ → Item) (w : PenState) → (w.leading ≡ true → k.in_hand x (book_in_hand w))
      → Held k x (becomes d d.held control item d.home i w)
  pen_with control item w fits =
      record { home = h.home; hand = each_after d.views i w (λ _ q. q.leading ≡ true → k.in_hand x (book_in_hand q)) fits (λ j q ne b. h.hand j q b) }

  -- the Book in its hand is as it was
  as_it_was : (control : ℕ → Control) (item : ℕ → Item) (w : PenState) → w.leading ≡ p.leading → book_in_hand w ≡ book_in_hand p
      → Held k x (becomes d d.held control item d.home i w)
  as_it_was control item w leads same =
      pen_with control item w (λ f. subst (k.in_hand x) (sym same) (h.hand i p a (sym leads ∙ f)))

  -- the Book once it has given an answer
  answered_fits : (place serial : ℕ) (o : Operation) (y : Answer) → p.leading ≡ true → MayDo (limits_in_hand p) p.hand o y
      → k.in_hand x (book_with p (journal_by p.hand place serial o y))
  answered_fits place serial o y leads may = k.answers x (book_in_hand p) place serial o y (h.hand i p a leads) may

  -- it brings this Book home, once that has woken whom it is to wake
  brings_home : (book : Volume) (w : PenState) → w.leading ≡ false → k.in_hand x book
      → Held k x (becomes d false d.control d.item (Some (settled_book book)) i w)
  brings_home book w leads fits =
      record {
        home = λ b e. (let f : settled_book book ≡ b = cc in subst (k.at_home x) f (k.settles x book fits));
        hand = each_after d.views i w (λ _ q. q.leading ≡ true → k.in_hand x (book_in_hand q))
            (λ f. absurd (let e : false ≡ true = sym leads ∙ f in cc))
            (λ j q ne b. h.hand j q b);
      }

  -- it takes the Book that was at home, while nobody leads
  takes : (book : Volume) → d.held ≡ false → d.home ≡ Some book → Held k x (becomes d true d.control d.item None i (after_lead p book))
  takes book free at_home =
      let w = after_lead p book in
      let t = ⊎_elim (λ t. t.1) (λ t. absurd (not_both_locks d.held free t.0)) m.2.lock in
      let e : Some t.book ≡ Some book = sym t.is ∙ at_home in
      let f : t.book ≡ book = cc in
      let room : p.room ≡ book.room = (m.2.pens i p a).told ∙ (sym t.room_is ∙ ap (λ (b : Volume). b.room) f) in
      let fits : k.in_hand x book = k.leads x book (h.home book at_home) in
      record {
        home = λ b e. absurd (let g : None ≡ Some b = e in cc);
        hand = each_after d.views i w (λ _ q. q.leading ≡ true → k.in_hand x (book_in_hand q))
            (λ _. subst (λ (n : ℕ). k.in_hand x (record book { room = n })) (sym room) fits)
            (λ j q ne b f. absurd (not_both_locks d.held free (m.2.led j q b f).1));
      }

  -- it changes what it has in its hand alone, while nobody else leads
  in_its_hand : (y : X) (w : PenState) → p.leading ≡ true → k.in_hand y (book_in_hand w) → Held k y (becomes d d.held d.control d.item d.home i w)
  in_its_hand y w leads fits =
      let led = m.2.led i p a leads in
      record {
        home = λ b e.
            absurd
            (⊎_elim (λ u. not_both_locks d.held u.0 led.1) (λ u. (let g : None ≡ Some b = sym u.1 ∙ e in cc)) m.2.lock);
        hand = each_after d.views i w (λ _ q. q.leading ≡ true → k.in_hand y (book_in_hand q)) (λ _. fits)
            (λ j q ne b f. absurd (ne ((m.2.led j q b f).0 ∙ sym led.0)));
      }

module _ {X : Type 0} (k : Keeping X) (d : Desk) (m : MeetsRule d) (x : X) (h : Held k x d) where
  -- where only what pens know changes
  know_on : (views : List View) → OnlyKnow m.0 d.views views → Held k x (record d { views = views })
  know_on views t =
      record {
        home = h.home;
        hand = λ j q b leads.
            (let u = t.was j q b in
            subst (k.in_hand x) (sym (ap book_in_hand u.2.same)) (h.hand j u.0 u.1 (sym (ap (λ (v : PenState). v.leading) u.2.same) ∙ leads)));
      }

  on_step : (v : Event) (e : Desk) (step : Step d v e) → Held k (so_far k (archived_in d v e step) (changes_in d v e step) x) e
  on_step (Drafts i y) e (p, a, free, item, same) = subst (λ z. Held k x z) (sym same) (as_it_was k d m x h i p a d.control (put d.item p.place y) (after_draft p y) refl refl)
  on_step (Posts i q) e (p, draft, a, free, few, proper, drafted, same) =
      subst (λ z. Held k x z) (sym same) (as_it_was k d m x h i p a (put d.control p.place (posted (p.posts + 1) q)) d.item (after_post p q (time d)) refl refl)
  on_step (Tries i) e (p, a, c) =
      ⊎_elim
      (λ u. subst (λ z. Held k x z) (sym u.1.2) (takes k d m x h i p a u.1.0 u.0 u.1.1))
      (λ u. subst (λ z. Held k x z) (sym u.1) (as_it_was k d m x h i p a d.control d.item (after_miss p) refl refl))
      c
  on_step (Reads i n) e (p, a, leads, inside, same) = subst (λ z. Held k x z) (sym same) (as_it_was k d m x h i p a d.control d.item (after_read p n (d.control n)) refl refl)
  on_step (ReadsItem i) e (p, due, a, leads, is_due, push, same) =
      subst (λ z. Held k x z) (sym same) (as_it_was k d m x h i p a d.control d.item (after_read_item p due (d.item due.place)) refl refl)
  on_step (LaysItem i y) e (p, due, a, leads, is_due, plain, item, same) =
      subst (λ z. Held k x z) (sym same) (as_it_was k d m x h i p a d.control (put d.item due.place y) (after_lay p due y) refl refl)
  on_step (Answers i y) e (p, due, q, a, leads, is_due, is_kind, known, laid, may, same) =
      subst (λ z. Held k x z) (sym same)
      (pen_with k d m x h i p a (put d.control due.place (answered y)) d.item (after_answer p due q y) (λ _. answered_fits k d m x h i p a due.place due.serial (Asked q) y leads may))
  on_step (Applies i q y) e (p, a, leads, free, few, proper, may, same) =
      subst (λ z. Held k x z) (sym same)
      (pen_with k d m x h i p a d.control d.item (after_apply p q y (time d)) (λ _. answered_fits k d m x h i p a p.place (p.posts + 1) (Asked q) y leads may))
  on_step (Archives i n) e (p, a, leads, same) =
      let y = k.archive x (min n (length p.hand)) in
      subst (λ z. Held k y z) (sym same) (in_its_hand k d m x h i p a y (after_archive p n) leads (k.archives x (book_in_hand p) n (h.hand i p a leads)))
  on_step (Changes i c) e (p, a, leads, same) =
      let y = k.change x c in
      subst (λ z. Held k y z) (sym same) (in_its_hand k d m x h i p a y (after_change p c) leads (k.changes x (book_in_hand p) c (h.hand i p a leads)))
  on_step (HandsOut i) e (p, a, same) = subst (λ z. Held k x z) (sym same) (as_it_was k d m x h i p a d.control d.item (after_hand_out p) refl refl)
  on_step (Releases i) e (p, a, leads, same) =
      subst (λ z. Held k x z) (sym same) (brings_home k d m x h i p a (book_in_hand p) (after_release p) refl (h.hand i p a leads))
  on_step (ReleasesBy i q y) e (p, a, leads, none, free, few, proper, may, same) =
      subst (λ z. Held k x z) (sym same)
      (brings_home k d m x h i p a (book_with p (journal_by p.hand p.place (p.posts + 1) q y)) (after_release_by p q y (time d)) refl (answered_fits k d m x h i p a p.place (p.posts + 1) q y leads may))
  on_step (Looks i) e (p, q, a, waits, same) =
      subst (λ z. Held k x z) (sym same) (as_it_was k d m x h i p a d.control d.item (after_look p q (d.control p.place) (time d)) refl refl)
  on_step (SeesItem i) e (p, q, n, a, waits, own, has, same) =
      subst (λ z. Held k x z) (sym same) (as_it_was k d m x h i p a d.control d.item (after_see p (d.item p.place)) refl refl)
  on_step (TakesItem i) e (p, q, n, a, waits, own, has, same) =
      subst (λ z. Held k x z) (sym same) (as_it_was k d m x h i p a d.control d.item (after_take p q n (d.item p.place) (time d)) refl refl)

  only : (views : List View) (e : Desk) → e ≡ record d { views = views } → OnlyKnow m.0 d.views views → Held k x e
  only views e same t = subst (λ z. Held k x z) (sym same) (know_on views t)

  -- a pen that comes out does not lead
  comes_out : (i : ℕ) (e : Desk) → DealsPen d i e → Held k x e
  comes_out i e (q, n, a, inside, same) =
      subst (λ z. Held k x z) (sym same) record {
        home = h.home;
        hand = each_dealt d m.0 m.1 m.2 i q n a inside (λ _ q. q.leading ≡ true → k.in_hand x (book_in_hand q)) (λ j q b. h.hand j q b)
            (λ f. absurd (let g : false ≡ true = f in cc));
      }

  pub on_move : (v : Move) (e : Desk) (move : Happens d v e) → Held k (so_far k (archived_by d v e move) (changes_by d v e move) x) e
  on_move (Deals i) e move = comes_out i e move
  on_move (Takes v) e step = on_step v e step
  on_move (CatchesUp i) e (p, found, a, lock, same) = only (set d.views i (Holder (after_catch_up p found))) e same (caught_up_at d m.0 m.1 m.2 i p a found lock)
  on_move (Writes i) e (p, a, same) = only (set d.views i (Holder (after_writing p)) ++ Note p.known ∷ []) e same (written d m.0 m.1 m.2 i p a)
  on_move (Hears i j) e (p, told, a, there, same) = only (set (set d.views i (Holder (after_hearing p told))) j (Note [])) e same (heard d m.0 m.1 m.2 i p a j told there)
  on_move (Copies i) e (told, there, same) = only (set d.views i (Note told) ++ Note told ∷ []) e same (copied d m.0 m.1 m.2 i told there)
  on_move (Testifies i) e (p, a, same) = only (set d.views i (Holder p) ++ Testimony (p ∷ []) 0 ∷ []) e same (testified d m.0 m.1 m.2 i p a)
  on_move (Retires i) e (p, a, idle, same) =
      only (set d.views i (Holder (after_retiring p)) ++ Testimony (after_retiring p ∷ []) 0 ∷ []) e same (set_aside d m.0 m.1 m.2 i p a Retired (after_retiring p ∷ []) 0)
  on_move (Sleeps i) e (p, a, idle, same) = only (set d.views i (Holder (after_sleeping p)) ++ Testimony [] 1 ∷ []) e same (set_aside d m.0 m.1 m.2 i p a Asleep [] 1)
  on_move (Wakes i j) e (p, n, a, there, ne, same) = only (set (set d.views i (Holder (after_waking p))) j (Testimony [] 0)) e same (woken d m.0 m.1 m.2 i j p n a there ne)
  on_move (Gathers i j) e (pens, more, n, o, a, there, ne, same) =
      only (set (set d.views i (Testimony (pens ++ more) (n + o))) j (Testimony [] 0)) e same (gathered d m.0 m.1 m.2 i j pens more n o a there ne)

-- and over runs
abbrev pub at_end : {X : Type 0} → Keeping X → (d : Desk) (vs : List Move) (e : Desk) → DealtRun d vs e → X → X
at_end k d [] e run x = x
at_end k d (v ∷ vs) e run x = at_end k run.0 vs e run.2 (so_far k (archived_by d v run.0 run.1) (changes_by d v run.0 run.1) x)

pub on_run : {X : Type 0} (k : Keeping X) → QueueLaws → (d : Desk) (vs : List Move) (e : Desk) (x : X) → MeetsRule d → Held k x d → (run : DealtRun d vs e)
    → Held k (at_end k d vs e run x) e
on_run k laws d [] e x m h run = subst (λ z. Held k x z) (sym run) h
on_run k laws d (v ∷ vs) e x m h run =
    on_run k laws run.0 vs e (so_far k (archived_by d v run.0 run.1) (changes_by d v run.0 run.1) x) (moves_keep laws d v run.0 m run.1) (on_move k d m x h v run.0 run.1) run.2
