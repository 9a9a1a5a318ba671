-- Where pens catch up, write notes and hear them, nothing changes but what pens know, and each still knows a beginning of the
-- journal.
use Rattle.std.proofs.Common.{◌≡◌, ◌≢◌, ℕ, ◌+◌, ◌<◌, inl, inr, ⊎_elim, List, [], ◌∷◌, ◌++◌, set, refl, ap, sym, ◌∙◌, subst, append-nil}
use Rattle.std.specs.Prelude.{Some}
use mathlib.Core.Option.{some}
use lib.ListN.{get_elem?}
use mathlib.Core.Logic.{dite}
use native.Mathlib.Decide.{ℕ_discrete}
use Rattle.atomic_table.proofs.Lists.{at_set, set_else, set_again, at_longer, at_snoc}
use Rattle.pq_types.specs.Item.{Item}
use Rattle.pq_types.specs.declared.control.Control.{Control}
use Rattle.pq_types.specs.Asked.{Line}
use Rattle.pq_book.specs.Book.{Volume}
use Rattle.desk_core.specs.Clauses.{LockClause}
use Rattle.desk_core.specs.Desk.{Desk, Has}
use Rattle.desk_core.specs.Notes.{after_catch_up, after_writing, with_told, after_hearing, CatchUpKeeps, WritingKeeps, HearingKeeps, CopyingKeeps}
use Rattle.desk_core.specs.Testimonies.{after_waking}
use Rattle.desk_core.specs.Rule.{StartsWith, IsLed, IsDue, PenRule, RuleAt}
use Rattle.desk_core.specs.declared.model.Duty.{Duty}
use Rattle.desk_core.specs.declared.model.Duty.TheVariants.{Active}
use Rattle.desk_core.specs.declared.model.PenState.{PenState}
use Rattle.desk_core.specs.declared.model.View.{View}
use Rattle.desk_core.specs.declared.model.View.TheVariants.{Dealer, Holder, Note, Testimony}
use Rattle.desk_core.proofs.Views.{has_here, has_else, same_pen, each_after, dealer_else, note_else}
use Rattle.desk_core.proofs.StepFacts.{not_both_locks}
use Rattle.desk_core.proofs.Clauses.{knows, clauses_hold}

-- the second pen is the first but for what it knows, a beginning of the journal, the number of its steps, and whether it acts
pub record Alike (journal : List Line) (p q : PenState) : Type 0 where
  pub knew : List Line
  pub count : ℕ
  pub duty : Duty
  pub same : q ≡ record p { known = knew; steps = count; duty = duty }
  pub starts : StartsWith journal knew

-- So is each pen of the second list to one of the first, and the other way round, at the same seat. No dealer is new there, and
-- each note tells a beginning of the journal.
pub record OnlyKnow (journal : List Line) (views views' : List View) : Type 0 where
  pub was : (j : ℕ) (q : PenState) → Has views' j q → (p : PenState) × Has views j p × Alike journal p q
  pub stays : (j : ℕ) (p : PenState) → Has views j p → (q : PenState) × Has views' j q × Alike journal p q
  pub dealers : (j n m : ℕ) → get_elem? views' j ≡ some (Dealer n m) → get_elem? views j ≡ some (Dealer n m)
  pub notes : (j : ℕ) (told : List Line) → get_elem? views' j ≡ some (Note told) → StartsWith journal told

pub alike_trans : (journal : List Line) (p q v : PenState) → Alike journal p q → Alike journal q v → Alike journal p v
alike_trans journal p q v f g =
    record { knew = g.knew; count = g.count; duty = g.duty; same = g.same ∙ ap (λ (y : PenState). record y { known = g.knew; steps = g.count; duty = g.duty }) f.same; starts = g.starts }

pub only_trans : (journal : List Line) (a b c : List View) → OnlyKnow journal a b → OnlyKnow journal b c → OnlyKnow journal a c
only_trans journal a b c f g =
    record {
      was = λ j q h. (let s = g.was j q h in let t = f.was j s.0 s.1 in (t.0, t.1, alike_trans journal t.0 s.0 q t.2 s.2));
      stays = λ j p h. (let s = f.stays j p h in let t = g.stays j s.0 s.1 in (t.0, t.1, alike_trans journal p s.0 t.0 s.2 t.2));
      dealers = λ j n m h. f.dealers j n m (g.dealers j n m h);
      notes = g.notes;
    }

pub same_place : (journal : List Line) (p q : PenState) → Alike journal p q → q.place ≡ p.place
same_place journal p q f = ap (λ (v : PenState). v.place) f.same

known_rule : (room : ℕ) (journal : List Line) (control : Control) (cell : Item) (p : PenState) (knew : List Line) (count : ℕ) (duty : Duty) → StartsWith journal knew
    → PenRule room journal control cell p → PenRule room journal control cell (record p { known = knew; steps = count; duty = duty })
known_rule room journal control cell p knew count duty starts m =
    record { told = m.told; counted = m.counted; stands = m.stands; looked = m.looked; known = starts; own = m.own; blank = m.blank; filled = m.filled; barred = m.barred; seen = m.seen }

module _ (d : Desk) (journal : List Line) (chief : ℕ) (r : RuleAt d journal chief) where
  -- so the rule holds on
  pub only_keeps : (views : List View) → OnlyKnow journal d.views views → RuleAt (record d { views = views }) journal chief
  only_keeps views t =
      let now : Desk = record d { views = views } in
      record {
        room_in_range = r.room_in_range;
        lock = ⊎_elim
            (λ u. inl u)
            (λ u. (let s = t.stays chief u.2.0 u.2.1 in inr (u.0, u.1, (s.0, s.1, ap (λ (v : PenState). v.leading) s.2.same ∙ u.2.2))))
            r.lock;
        led = λ j q b. (let s = t.was j q b in subst (IsLed now journal chief j) (sym s.2.same) (r.led j s.0 s.1));
        due = λ j q b. (let s = t.was j q b in subst (IsDue now) (sym s.2.same) (r.due j s.0 s.1));
        seated = record {
          inside = λ j q b. (let s = t.was j q b in subst (λ (v : PenState). v.place < d.places) (sym s.2.same) (r.seated.inside j s.0 s.1));
          apart = λ j h q v b c e.
              (let s = t.was j q b in
              let u = t.was h v c in
              r.seated.apart j h s.0 u.0 s.1 u.1 (sym (same_place journal s.0 q s.2) ∙ (e ∙ same_place journal u.0 v u.2)));
          owned = λ k ne. (let o = r.seated.owned k ne in let s = t.stays o.0 o.1 o.2 in (o.0, s.0, s.1, same_place journal o.1 s.0 s.2 ∙ o.3));
        };
        dealers = λ j n m b.
            (let s = r.dealers j n m (t.dealers j n m b) in (
              s.0,
              record {
                first = s.1.first;
                pens = λ h q c. (let u = t.was h q c in subst (λ (v : PenState). v.place < n) (sym u.2.same) (s.1.pens h u.0 u.1));
                lines = s.1.lines;
              },
            ));
        lawful = r.lawful;
        pens = λ j q b.
            (let s = t.was j q b in
            let p = s.0 in
            subst (λ (v : PenState). PenRule d.room journal (d.control v.place) (d.item v.place) v) (sym s.2.same)
            (known_rule d.room journal (d.control p.place) (d.item p.place) p s.2.knew s.2.count s.2.duty s.2.starts (r.pens j p s.1)));
        notes = t.notes;
      }

  itself : (j : ℕ) (q : PenState) → Has d.views j q → Alike journal q q
  itself j q b = record { knew = q.known; count = q.steps; duty = q.duty; same = refl; starts = (r.pens j q b).known }

  -- a pen knows another beginning of the journal
  pub pen_knows : (i : ℕ) (p : PenState) → Has d.views i p → (knew : List Line) (count : ℕ) (duty : Duty) → StartsWith journal knew
      → OnlyKnow journal d.views (set d.views i (Holder (record p { known = knew; steps = count; duty = duty })))
  pen_knows i p a knew count duty starts =
      let w : PenState = record p { known = knew; steps = count; duty = duty } in
      let changed : Alike journal p w = record { knew = knew; count = count; duty = duty; same = refl; starts = starts } in
      record {
        was = λ j q b.
            each_after d.views i w (λ h v. (u : PenState) × Has d.views h u × Alike journal u v) (p, a, changed) (λ h v ne c. (v, c, itself h v c)) j q b;
        stays = λ j q b.
            dite (ℕ_discrete j i)
            (λ e. (
              w,
              subst (λ n. Has (set d.views i (Holder w)) n w) (sym e) (has_here d.views i p w a),
              subst (λ y. Alike journal y w) (same_pen d.views i p q a (subst (λ n. Has d.views n q) e b)) changed,
            ))
            (λ ne. (q, has_else d.views i j w q ne b, itself j q b));
        dealers = λ j n m b. dealer_else d.views i j n m w b;
        notes = λ j told b. r.notes j told (note_else d.views i j told w b);
      }

  -- a note more, of a beginning of the journal
  pub note_more : (told : List Line) → StartsWith journal told → OnlyKnow journal d.views (d.views ++ Note told ∷ [])
  note_more told starts =
      record {
        was = λ j q b. ⊎_elim (λ u. (q, u, itself j q u)) (λ u. absurd (let f : Note told ≡ Holder q = u in cc)) (at_snoc d.views (Note told) (Holder q) j b);
        stays = λ j q b. (q, at_longer d.views (Note told ∷ []) j (Holder q) b, itself j q b);
        dealers = λ j n m b. ⊎_elim (λ u. u) (λ u. absurd (let f : Note told ≡ Dealer n m = u in cc)) (at_snoc d.views (Note told) (Dealer n m) j b);
        notes = λ j other b.
            ⊎_elim
            (λ u. r.notes j other u)
            (λ u. (let f : Note told ≡ Note other = u in let g : told ≡ other = cc in subst (StartsWith journal) g starts))
            (at_snoc d.views (Note told) (Note other) j b);
      }

  -- a testimony more
  pub testimony_more : (pens : List PenState) (n : ℕ) → OnlyKnow journal d.views (d.views ++ Testimony pens n ∷ [])
  testimony_more pens n =
      let w : View = Testimony pens n in
      record {
        was = λ j q b. ⊎_elim (λ u. (q, u, itself j q u)) (λ u. absurd (let f : Testimony pens n ≡ Holder q = u in cc)) (at_snoc d.views w (Holder q) j b);
        stays = λ j q b. (q, at_longer d.views (w ∷ []) j (Holder q) b, itself j q b);
        dealers = λ j k m b. ⊎_elim (λ u. u) (λ u. absurd (let f : Testimony pens n ≡ Dealer k m = u in cc)) (at_snoc d.views w (Dealer k m) j b);
        notes = λ j other b. ⊎_elim (λ u. r.notes j other u) (λ u. absurd (let f : Testimony pens n ≡ Note other = u in cc)) (at_snoc d.views w (Note other) j b);
      }

  -- a testimony becomes another
  pub testimony_set : (i : ℕ) (old new : List PenState) (n m : ℕ) → get_elem? d.views i ≡ some (Testimony old n) → OnlyKnow journal d.views (set d.views i (Testimony new m))
  testimony_set i old new n m a =
      let w : View = Testimony new m in
      record {
        was = λ j q b. ⊎_elim (λ u. absurd (let f : Testimony new m ≡ Holder q = u.1 in cc)) (λ u. (q, u.1, itself j q u.1)) (at_set d.views i j w (Holder q) b);
        stays = λ j q b.
            (let ne : j ≢ i = λ e. (let f : some (Holder q) ≡ some (Testimony old n) = sym b ∙ (ap (get_elem? d.views) e ∙ a) in cc) in
            (q, set_else d.views i j w ne ∙ b, itself j q b));
        dealers = λ j k l b. ⊎_elim (λ u. absurd (let f : Testimony new m ≡ Dealer k l = u.1 in cc)) (λ u. u.1) (at_set d.views i j w (Dealer k l) b);
        notes = λ j other b. ⊎_elim (λ u. absurd (let f : Testimony new m ≡ Note other = u.1 in cc)) (λ u. r.notes j other u.1) (at_set d.views i j w (Note other) b);
      }

  -- a note tells another beginning of it
  pub note_tells : (i : ℕ) (old new : List Line) → get_elem? d.views i ≡ some (Note old) → StartsWith journal new → OnlyKnow journal d.views (set d.views i (Note new))
  note_tells i old new a starts =
      record {
        was = λ j q b. ⊎_elim (λ u. absurd (let f : Note new ≡ Holder q = u.1 in cc)) (λ u. (q, u.1, itself j q u.1)) (at_set d.views i j (Note new) (Holder q) b);
        stays = λ j q b.
            (let ne : j ≢ i = λ e. (let f : some (Holder q) ≡ some (Note old) = sym b ∙ (ap (get_elem? d.views) e ∙ a) in cc) in
            (q, set_else d.views i j (Note new) ne ∙ b, itself j q b));
        dealers = λ j n m b. ⊎_elim (λ u. absurd (let f : Note new ≡ Dealer n m = u.1 in cc)) (λ u. u.1) (at_set d.views i j (Note new) (Dealer n m) b);
        notes = λ j other b.
            ⊎_elim
            (λ u. (let f : Note new ≡ Note other = u.1 in let g : new ≡ other = cc in subst (StartsWith journal) g starts))
            (λ u. r.notes j other u.1)
            (at_set d.views i j (Note new) (Note other) b);
      }

-- of two beginnings of a journal, one and what the other has more are one too
pub told_starts : (known told journal : List Line) → StartsWith journal known → StartsWith journal told → StartsWith journal (with_told known told)
told_starts [] told journal f g = g
told_starts (x ∷ xs) [] journal f g = subst (StartsWith journal) (sym (append-nil (x ∷ xs))) f
told_starts (x ∷ xs) (y ∷ ys) [] f g = absurd (let e : ◌≡◌ {A = List Line} [] (x ∷ (xs ++ f.0)) = f.1 in cc)
told_starts (x ∷ xs) (y ∷ ys) (z ∷ zs) f g =
    let a : z ∷ zs ≡ x ∷ (xs ++ f.0) = f.1 in
    let b : z ∷ zs ≡ y ∷ (ys ++ g.0) = g.1 in
    let head : z ≡ x = cc in
    let left : zs ≡ xs ++ f.0 = cc in
    let right : zs ≡ ys ++ g.0 = cc in
    let t = told_starts xs ys zs (f.0, left) (g.0, right) in
    (t.0, ap (λ (l : List Line). z ∷ l) t.1 ∙ ap (λ (l : Line). l ∷ (with_told xs ys ++ t.0)) head)

whole : (journal : List Line) → StartsWith journal journal
whole journal = ([], sym (append-nil journal))

-- the views after each of the three
module _ (d : Desk) (journal : List Line) (chief : ℕ) (r : RuleAt d journal chief) (i : ℕ) (p : PenState) (a : Has d.views i p) where
  pub caught_up : OnlyKnow journal d.views (set d.views i (Holder (after_catch_up p journal)))
  caught_up = pen_knows d journal chief r i p a journal (p.steps + 1) p.duty (whole journal)

  pub written : OnlyKnow journal d.views (set d.views i (Holder (after_writing p)) ++ Note p.known ∷ [])
  written =
      let first = pen_knows d journal chief r i p a p.known (p.steps + 1) p.duty (r.pens i p a).known in
      let views : List View = set d.views i (Holder (after_writing p)) in
      only_trans journal d.views views (views ++ Note p.known ∷ []) first
      (note_more (record d { views = views }) journal chief (only_keeps d journal chief r views first) p.known (r.pens i p a).known)

  module _ (other : ℕ) (told : List Line) (there : get_elem? d.views other ≡ some (Note told)) where
    apart : other ≢ i
    apart e = let f : some (Note told) ≡ some (Holder p) = sym there ∙ (ap (get_elem? d.views) e ∙ a) in cc

    pub heard : OnlyKnow journal d.views (set (set d.views i (Holder (after_hearing p told))) other (Note []))
    heard =
        let known = told_starts p.known told journal (r.pens i p a).known (r.notes other told there) in
        let first = pen_knows d journal chief r i p a (with_told p.known told) (p.steps + 1) p.duty known in
        let views : List View = set d.views i (Holder (after_hearing p told)) in
        only_trans journal d.views views (set views other (Note [])) first
        (note_tells (record d { views = views }) journal chief (only_keeps d journal chief r views first) other told []
        (set_else d.views i other (Holder (after_hearing p told)) apart ∙ there) (journal, refl))

-- a copy of a note
pub copied : (d : Desk) (journal : List Line) (chief : ℕ) → RuleAt d journal chief → (i : ℕ) (told : List Line) → get_elem? d.views i ≡ some (Note told)
    → OnlyKnow journal d.views (set d.views i (Note told) ++ Note told ∷ [])
copied d journal chief r i told there =
    subst (λ (vs : List View). OnlyKnow journal d.views (vs ++ Note told ∷ [])) (sym (set_again d.views i (Note told) there))
    (note_more d journal chief r told (r.notes i told there))

-- a testimony that a pen gives
pub testified : (d : Desk) (journal : List Line) (chief : ℕ) → RuleAt d journal chief → (i : ℕ) (p : PenState) → Has d.views i p
    → OnlyKnow journal d.views (set d.views i (Holder p) ++ Testimony (p ∷ []) 0 ∷ [])
testified d journal chief r i p a =
    subst (λ (vs : List View). OnlyKnow journal d.views (vs ++ Testimony (p ∷ []) 0 ∷ [])) (sym (set_again d.views i (Holder p) a)) (testimony_more d journal chief r (p ∷ []) 0)

-- a testimony that a pen gives as it retires, or falls asleep
pub set_aside : (d : Desk) (journal : List Line) (chief : ℕ) → RuleAt d journal chief → (i : ℕ) (p : PenState) → Has d.views i p
    → (duty : Duty) (pens : List PenState) (n : ℕ) → OnlyKnow journal d.views (set d.views i (Holder (record p { duty = duty })) ++ Testimony pens n ∷ [])
set_aside d journal chief r i p a duty pens n =
    let first = pen_knows d journal chief r i p a p.known p.steps duty (r.pens i p a).known in
    let views : List View = set d.views i (Holder (record p { duty = duty })) in
    only_trans journal d.views views (views ++ Testimony pens n ∷ []) first
    (testimony_more (record d { views = views }) journal chief (only_keeps d journal chief r views first) pens n)

-- a pen that is woken by the testimony at another seat
pub woken : (d : Desk) (journal : List Line) (chief : ℕ) → RuleAt d journal chief → (i j : ℕ) (p : PenState) (n : ℕ) → Has d.views i p
    → get_elem? d.views j ≡ some (Testimony [] n) → j ≢ i → OnlyKnow journal d.views (set (set d.views i (Holder (after_waking p))) j (Testimony [] 0))
woken d journal chief r i j p n a there ne =
    let first = pen_knows d journal chief r i p a p.known p.steps Active (r.pens i p a).known in
    let views : List View = set d.views i (Holder (after_waking p)) in
    only_trans journal d.views views (set views j (Testimony [] 0)) first
    (testimony_set (record d { views = views }) journal chief (only_keeps d journal chief r views first) j [] [] n 0 (set_else d.views i j (Holder (after_waking p)) ne ∙ there))

-- two testimonies that are put together
pub gathered : (d : Desk) (journal : List Line) (chief : ℕ) → RuleAt d journal chief → (i j : ℕ) (pens more : List PenState) (n m : ℕ) → get_elem? d.views i ≡ some (Testimony pens n)
    → get_elem? d.views j ≡ some (Testimony more m) → j ≢ i → OnlyKnow journal d.views (set (set d.views i (Testimony (pens ++ more) (n + m))) j (Testimony [] 0))
gathered d journal chief r i j pens more n m a there ne =
    let first = testimony_set d journal chief r i pens (pens ++ more) n (n + m) a in
    let views : List View = set d.views i (Testimony (pens ++ more) (n + m)) in
    only_trans journal d.views views (set views j (Testimony [] 0)) first
    (testimony_set (record d { views = views }) journal chief (only_keeps d journal chief r views first) j more [] m 0 (set_else d.views i j (Testimony (pens ++ more) (n + m)) ne ∙ there))

-- the lock tells one journal
pub one_journal : (d : Desk) (a b : List Line) → LockClause d a → LockClause d b → a ≡ b
one_journal d a b u v =
    ⊎_elim
    (λ s.
    ⊎_elim
    (λ t.
    (let e : Some s.1.book ≡ Some t.1.book = sym s.1.is ∙ t.1.is in
    let f : s.1.book ≡ t.1.book = cc in
    sym s.1.journal_is ∙ (ap (λ (y : Volume). y.journal) f ∙ t.1.journal_is)))
    (λ t. absurd (not_both_locks d.held s.0 t.0))
    v)
    (λ s.
    ⊎_elim
    (λ t. absurd (not_both_locks d.held t.0 s.0))
    (λ t.
    (let x = s.2 in
    let y = t.2 in
    let f : y.0 ≡ x.0 = x.5 y.0 y.1 y.2 y.3 in
    let g : x.1 ≡ y.1 = same_pen d.views x.0 x.1 y.1 x.2 (subst (λ n. Has d.views n y.1) f y.2) in
    sym x.4 ∙ (ap (λ (z : PenState). z.hand) g ∙ y.4)))
    v)
    u

-- so a pen that catches up knows the journal of the rule
pub caught_up_at : (d : Desk) (journal : List Line) (chief : ℕ) → RuleAt d journal chief → (i : ℕ) (p : PenState) → Has d.views i p → (found : List Line) → LockClause d found
    → OnlyKnow journal d.views (set d.views i (Holder (after_catch_up p found)))
caught_up_at d journal chief r i p a found lock =
    subst (λ js. OnlyKnow journal d.views (set d.views i (Holder (after_catch_up p js)))) (one_journal d journal found (clauses_hold d journal chief r).lock lock) (caught_up d journal chief r i p a)

pub catch_up_keeps : CatchUpKeeps
catch_up_keeps d seat p m a = (
  m.0,
  (clauses_hold d m.0 m.1 m.2).lock,
  knows d m.0 m.1 m.2 seat p a,
  (m.0, m.1, only_keeps d m.0 m.1 m.2 (set d.views seat (Holder (after_catch_up p m.0))) (caught_up d m.0 m.1 m.2 seat p a)),
)

pub writing_keeps : WritingKeeps
writing_keeps d seat p m a = (m.0, m.1, only_keeps d m.0 m.1 m.2 (set d.views seat (Holder (after_writing p)) ++ Note p.known ∷ []) (written d m.0 m.1 m.2 seat p a))

pub hearing_keeps : HearingKeeps
hearing_keeps d seat p m a other told there =
    (m.0, m.1, only_keeps d m.0 m.1 m.2 (set (set d.views seat (Holder (after_hearing p told))) other (Note [])) (heard d m.0 m.1 m.2 seat p a other told there))

pub copying_keeps : CopyingKeeps
copying_keeps d seat told m there =
    subst (λ (vs : List View). (journal : List Line) × (chief : ℕ) × RuleAt (record d { views = vs ++ Note told ∷ [] }) journal chief) (sym (set_again d.views seat (Note told) there))
    (m.0, m.1, only_keeps d m.0 m.1 m.2 (d.views ++ Note told ∷ []) (note_more d m.0 m.1 m.2 told (m.2.notes seat told there)))
