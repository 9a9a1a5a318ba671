-- What a step owes, so that the rule holds after it.
use Rattle.std.proofs.Common.{◌≡◌, ◌≢◌, ℕ, ◌<◌, ◌≤◌, inl, inr, ⊎_elim, Bool, List, [], set, refl, ap, sym, ◌∙◌, subst}
use Rattle.std.specs.Prelude.{Option}
use mathlib.Core.Logic.{dite}
use native.Mathlib.Decide.{ℕ_discrete}
use Rattle.pq_types.specs.Item.{Item}
use Rattle.pq_types.specs.declared.control.Kind.{Kind}
use Rattle.pq_types.specs.declared.control.Control.{Control}
use Rattle.pq_types.specs.declared.control.Control.TheVariants.{Nothing, Posted}
use Rattle.pq_types.specs.Asked.{Line}
use Rattle.pq_types.specs.Control.{Carries}
use Rattle.pq_book.specs.Book.{Volume}
use Rattle.desk_core.specs.declared.model.PenState.{PenState}
use Rattle.desk_core.specs.declared.model.View.{View}
use Rattle.desk_core.specs.declared.model.View.TheVariants.{Holder}
use Rattle.desk_core.specs.Calls.{calls_of}
use Rattle.desk_core.specs.Desk.{Desk, Has}
use Rattle.desk_core.specs.Rule.{StartsWith, IsDue, IsLed, Lock, Lawful, PenRule, RuleAt}
use Rattle.desk_core.proofs.Views.{becomes, each_after, places_keep, has_here, has_else, same_pen, dealer_else, note_else}

-- the same of each pen but i
abbrev pub Others : List View → ℕ → (ℕ → PenState → Type 0) → Type 0
Others views i Q = (j : ℕ) (q : PenState) → j ≢ i → Has views j q → Q j q

-- of the step of the pen p at the seat i of d, after which the pen is w and the desk is `after`
pub record Owes (d : Desk) (was : List Line) (after : Desk) (journal : List Line) (chief i : ℕ) (p w : PenState) : Type 0 where
  pub place : w.place ≡ p.place
  pub owned : (k : ℕ) → after.control k ≢ Nothing → (j : ℕ) × (q : PenState) × Has d.views j q × (q.place ≡ k)
  pub lock : Lock after journal chief
  pub led : IsLed after journal chief i w
  pub led_others : Others d.views i (IsLed after journal chief)
  pub due : IsDue after w
  pub due_others : Others d.views i (λ _ q. IsDue after q)
  pub lines : (n k : ℕ) → ((j : ℕ) (q : PenState) → Has d.views j q → q.place < n) → n ≤ k → calls_of k was ≡ [] → calls_of k journal ≡ []
  pub grows : (first : List Line) → StartsWith was first → StartsWith journal first
  pub lawful : Lawful d.room journal
  pub pen : PenRule d.room journal (after.control w.place) (after.item w.place) w
  pub pen_others : Others d.views i (λ _ q. PenRule d.room journal (after.control q.place) (after.item q.place) q)

module _ (d : Desk) (journal : List Line) (chief : ℕ) (r : RuleAt d journal chief) (i : ℕ) (p : PenState) (a : Has d.views i p) where
  -- any step
  pub keeps : (held : Bool) (control : ℕ → Control) (item : ℕ → Item) (home : Option Volume) (js : List Line) (c : ℕ) (w : PenState)
      → Owes d journal (becomes d held control item home i w) js c i p w
      → RuleAt (becomes d held control item home i w) js c
  keeps held control item home js c w o =
      let after = becomes d held control item home i w in
      record {
        room_in_range = r.room_in_range;
        lock = o.lock;
        led = each_after d.views i w (IsLed after js c) o.led o.led_others;
        due = each_after d.views i w (λ _ q. IsDue after q) o.due o.due_others;
        seated = places_keep d held control item home i p w r.seated a o.place o.owned;
        dealers = λ g n m e.
            (let t = r.dealers g n m (dealer_else d.views i g n m w e) in (
              t.0,
              record {
                first = t.1.first;
                pens = each_after d.views i w (λ _ q. q.place < n) (rw o.place (t.1.pens i p a)) (λ j q ne b. t.1.pens j q b);
                lines = λ k le. o.lines n k t.1.pens le (t.1.lines k le);
              },
            ));
        lawful = o.lawful;
        pens = each_after d.views i w (λ _ q. PenRule d.room js (control q.place) (item q.place) q) o.pen o.pen_others;
        notes = λ g told e. o.grows told (r.notes g told (note_else d.views i g told w e));
      }

  -- the chief still leads, if it did
  pub lock_keeps : (control : ℕ → Control) (item : ℕ → Item) (w : PenState) → w.leading ≡ p.leading
      → Lock (becomes d d.held control item d.home i w) journal chief
  lock_keeps control item w l =
      ⊎_elim
      (λ t. inl t)
      (λ t. inr (
        t.0,
        t.1,
        dite (ℕ_discrete chief i)
            (λ s. let u : Has d.views i t.2.0 = subst (λ n. Has d.views n t.2.0) s t.2.1 in (w, subst (λ n. Has (set d.views i (Holder w)) n w) (sym s) (has_here d.views i p w a), l ∙ (ap (λ (v : PenState). v.leading) (same_pen d.views i p t.2.0 a u) ∙ t.2.2)))
            (λ ne. (t.2.0, has_else d.views i chief w t.2.0 ne t.2.1, t.2.2)),
      ))
      r.lock

  -- a step that leaves the lock, the journal, the cells of other places and what stands posted as
  -- they are
  pub record Quiet (control : ℕ → Control) (item : ℕ → Item) (w : PenState) : Type 0 where
    pub place : w.place ≡ p.place
    pub leading : w.leading ≡ p.leading
    pub hand : w.hand ≡ p.hand
    pub others : (k : ℕ) → k ≢ p.place → (control k ≡ d.control k) × (item k ≡ d.item k)
    pub posts : (k s : ℕ) (kind : Kind) → d.control k ≡ Posted s kind → (control k ≡ d.control k) × (item k ≡ d.item k)
    pub due : IsDue (becomes d d.held control item d.home i w) w
    pub pen : PenRule d.room journal (control w.place) (item w.place) w

  pub quiet : (control : ℕ → Control) (item : ℕ → Item) (w : PenState) → Quiet control item w → RuleAt (becomes d d.held control item d.home i w) journal chief
  quiet control item w o =
      keeps d.held control item d.home journal chief w record {
        place = o.place;
        owned = λ k ne.
            dite (ℕ_discrete k p.place)
            (λ e. (i, p, a, sym e))
            (λ other. r.seated.owned k (λ z. ne ((o.others k other).0 ∙ z)));
        lock = lock_keeps control item w o.leading;
        led = λ l. (let t = r.led i p a (sym o.leading ∙ l) in (t.0, t.1, o.hand ∙ t.2));
        led_others = λ j q ne b l. r.led j q b l;
        due = o.due;
        due_others = λ j q ne b x e.
            (let t = r.due j q b x e in
            let s = o.posts x.place x.serial x.kind t.1 in (t.0, s.0 ∙ t.1, subst (Carries x.item) (sym s.1) t.2));
        lines = λ n k pens le e. e;
        grows = λ first e. e;
        lawful = r.lawful;
        pen = o.pen;
        pen_others = λ j q ne b.
            (let s = o.others q.place (λ e. ne (r.seated.apart j i q p b a e)) in
            subst (λ n. PenRule d.room journal n (item q.place) q) (sym s.0) (subst (λ n. PenRule d.room journal (d.control q.place) n q) (sym s.1) (r.pens j q b)));
      }

  -- a step that changes no cell
  pub same_cells : (w : PenState) → w.place ≡ p.place → w.leading ≡ p.leading → w.hand ≡ p.hand → IsDue d w
      → PenRule d.room journal (d.control w.place) (d.item w.place) w
      → RuleAt (becomes d d.held d.control d.item d.home i w) journal chief
  same_cells w place leading hand due pen =
      quiet d.control d.item w record {
        place = place;
        leading = leading;
        hand = hand;
        others = λ k ne. (refl, refl);
        posts = λ k s kind h. (refl, refl);
        due = due;
        pen = pen;
      }
