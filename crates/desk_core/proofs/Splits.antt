-- A dealer gives out the pen of its next place: the rule holds after it.
use Rattle.std.proofs.Common.{◌≡◌, ◌≢◌, ℕ, suc, zero, ◌+◌, ◌<◌, ◌⊎◌, inl, inr, ⊎_elim, true, false, List, [], ◌∷◌, ◌++◌, length, set, refl, ap, sym, ◌∙◌, subst, arith}
use Rattle.std.proofs.lemmas.List.{length-set}
use Rattle.std.specs.Prelude.{Some, None}
use mathlib.Core.Option.{some, some-injective, some-ne-none}
use lib.ListN.{get_elem?}
use Rattle.atomic_table.proofs.Lists.{at_set, set_else, at_longer}
use Rattle.pq_types.specs.declared.control.Control.{Control}
use Rattle.pq_types.specs.declared.control.Control.TheVariants.{Nothing, Posted, Answered}
use Rattle.pq_types.specs.Asked.{Line}
use Rattle.desk_core.specs.declared.model.PenState.{PenState}
use Rattle.desk_core.specs.declared.model.View.{View}
use Rattle.desk_core.specs.declared.model.View.TheVariants.{Dealer, Holder, Note}
use Rattle.desk_core.specs.Pen.{new_pen}
use Rattle.desk_core.specs.Desk.{Desk, Has}
use Rattle.desk_core.proofs.Records.{not_nothing}
use Rattle.desk_core.specs.Rule.{IsLed, IsDue, PenRule, RuleAt, DealingKeepsRule, fresh}

at_end : {A : Type 0} (l : List A) (a b : A) (j : ℕ) → get_elem? (l ++ a ∷ []) j ≡ some b → (get_elem? l j ≡ some b) ⊎ ((a ≡ b) × (j ≡ length l))
at_end [] a b zero e = inr (some-injective a b e, refl)
at_end [] a b (suc j) e = absurd (some-ne-none b (sym e))
at_end (x ∷ xs) a b zero e = inl e
at_end (x ∷ xs) a b (suc j) e = ⊎_elim (λ t. inl t) (λ t. inr (t.0, ap suc t.1)) (at_end xs a b j e)

module _ (d : Desk) (journal : List Line) (chief : ℕ) (r : RuleAt d journal chief) (i k m : ℕ) (a : get_elem? d.views i ≡ some (Dealer k m)) (inside : k < d.places) where
  after : List View
  after = set d.views i (Dealer (k + 1) m) ++ Holder (new_pen m k) ∷ []

  -- each pen is an old one or the new one
  which : (j : ℕ) (q : PenState) → Has after j q → Has d.views j q ⊎ ((q ≡ new_pen m k) × (j ≡ length d.views))
  unfolding after
  which j q e =
      ⊎_elim
      (λ t. ⊎_elim (λ u. absurd (let f : Dealer (k + 1) m ≡ Holder q = u.1 in cc)) (λ u. inl u.1) (at_set d.views i j (Dealer (k + 1) m) (Holder q) t))
      (λ t. inr (let g : Holder (new_pen m k) ≡ Holder q = t.0 in let f : new_pen m k ≡ q = cc in sym f, t.1 ∙ length-set d.views i (Dealer (k + 1) m)))
      (at_end (set d.views i (Dealer (k + 1) m)) (Holder (new_pen m k)) (Holder q) j e)

  each : (Q : ℕ → PenState → Type 0) → ((j : ℕ) (q : PenState) → Has d.views j q → Q j q) → Q (length d.views) (new_pen m k) → (j : ℕ) (q : PenState)
      → Has after j q → Q j q
  each Q old new j q e = ⊎_elim (λ t. old j q t) (λ t. subst (λ n. Q n q) (sym t.1) (subst (λ v. Q (length d.views) v) (sym t.0) new)) (which j q e)

  stays : (j : ℕ) (q : PenState) → Has d.views j q → Has after j q
  unfolding after
  stays j q e =
      let ne : j ≢ i = λ s. (let f : some (Holder q) ≡ some (Dealer k m) = sym e ∙ (ap (get_elem? d.views) s ∙ a) in cc) in
      at_longer (set d.views i (Dealer (k + 1) m)) (Holder (new_pen m k) ∷ []) j (Holder q) (set_else d.views i j (Dealer (k + 1) m) ne ∙ e)

  abbrev dealt : List View
  dealt = set d.views i (Dealer (k + 1) m) ++ Holder (new_pen m k) ∷ []

  -- what holds of each pen that was out, and of the new one, holds of each that is
  pub each_dealt : (Q : ℕ → PenState → Type 0) → ((j : ℕ) (q : PenState) → Has d.views j q → Q j q) → Q (length d.views) (new_pen m k) → (j : ℕ) (q : PenState)
      → Has dealt j q → Q j q
  unfolding after
  each_dealt Q old new j q e = each Q old new j q e

  -- a pen that was out keeps its seat
  pub stays_out : (j : ℕ) (q : PenState) → Has d.views j q → Has dealt j q
  unfolding after
  stays_out j q e = stays j q e

  -- a dealer is one that was there, or has given out this pen
  pub dealer_dealt : (j n u : ℕ) → get_elem? dealt j ≡ some (Dealer n u) → (k + 1 ≡ n) ⊎ (get_elem? d.views j ≡ some (Dealer n u))
  dealer_dealt j n u e =
      ⊎_elim
      (λ t.
      ⊎_elim
      (λ s. inl (let f : Dealer (k + 1) m ≡ Dealer n u = s.1 in cc))
      (λ s. inr s.1)
      (at_set d.views i j (Dealer (k + 1) m) (Dealer n u) t))
      (λ t. absurd (let f : Holder (new_pen m k) ≡ Dealer n u = t.0 in cc))
      (at_end (set d.views i (Dealer (k + 1) m)) (Holder (new_pen m k)) (Dealer n u) j e)

  -- a place whose pen is still to come has no control yet
  empty_there : (c : Control) → d.control k ≡ c → d.control k ≡ Nothing
  empty_there Nothing e = e
  empty_there (Posted s kind) e = absurd (let t = r.seated.owned k (not_nothing (d.control k) s kind e) in let lt = (r.dealers i k m a).1.pens t.0 t.1 t.2 in let f = t.3 in omega arith)
  empty_there (Answered n) e = absurd (let t = r.seated.owned k (λ z. let g : Answered n ≡ Nothing = sym e ∙ z in absurd (cc g)) in let lt = (r.dealers i k m a).1.pens t.0 t.1 t.2 in let f = t.3 in omega arith)

  pub split_keeps : RuleAt (record d { views = set d.views i (Dealer (k + 1) m) ++ Holder (new_pen m k) ∷ [] }) journal chief
  unfolding after
  split_keeps =
      let late = r.dealers i k m a in
      let old = late.1 in
      let now : Desk = record d { views = set d.views i (Dealer (k + 1) m) ++ Holder (new_pen m k) ∷ [] } in
      record {
        room_in_range = r.room_in_range;
        lock = ⊎_elim (λ t. inl t) (λ t. inr (t.0, t.1, (t.2.0, stays chief t.2.0 t.2.1, t.2.2))) r.lock;
        led = each (IsLed now journal chief) (λ j q e. r.led j q e) (λ l. absurd (let f : false ≡ true = l in cc));
        due = each (λ _ q. IsDue now q) (λ j q e. r.due j q e) (λ x e. absurd (let f : None ≡ Some x = e in cc));
        seated = record {
          inside = each (λ _ q. q.place < d.places) (λ j q e. r.seated.inside j q e) inside;
          apart = λ j h p q b c.
              each (λ j p. p.place ≡ q.place → j ≡ h)
              (λ j p b'. each (λ h q. p.place ≡ q.place → j ≡ h) (λ h q c'. r.seated.apart j h p q b' c') (λ e. absurd (let lt = old.pens j p b' in let e' : p.place ≡ k = e in omega arith)) h q c)
              (each (λ h q. k ≡ q.place → length d.views ≡ h) (λ h q c' e. absurd (let lt = old.pens h q c' in omega arith)) (λ _. refl) h q c)
              j p b;
          owned = λ x ne. (let t = r.seated.owned x ne in (t.0, t.1, stays t.0 t.1 t.2, t.3));
        };
        dealers = λ j n u e.
            ⊎_elim
            (λ t.
            ⊎_elim
            (λ s.
            (let f : Dealer (k + 1) m ≡ Dealer n u = s.1 in
            let dn : k + 1 ≡ n = cc in
            let du : m ≡ u = cc in (
              sym du ∙ late.0,
              record {
                first = s.0 ∙ old.first;
                pens = each (λ _ q. q.place < n) (λ h q b. let lt = old.pens h q b in omega arith) (let e' : k < n = omega arith in e');
                lines = λ x le. old.lines x (omega arith);
              },
            )))
            (λ s. absurd (s.0 ((r.dealers j n u s.1).1.first ∙ sym old.first)))
            (at_set d.views i j (Dealer (k + 1) m) (Dealer n u) t))
            (λ t. absurd (let f : Holder (new_pen m k) ≡ Dealer n u = t.0 in cc))
            (at_end (set d.views i (Dealer (k + 1) m)) (Holder (new_pen m k)) (Dealer n u) j e);
        lawful = r.lawful;
        pens = each (λ _ q. PenRule d.room journal (d.control q.place) (d.item q.place) q) (λ j q e. r.pens j q e)
            record {
              told = late.0;
              counted = omega arith;
              stands = fresh None refl tt (empty_there (d.control k) refl) (old.lines k (omega arith));
              looked = tt;
              known = (journal, refl);
              own = λ h. absurd (let f : false ≡ true = h in cc);
              blank = λ _. refl;
              filled = λ h. absurd (let f : false ≡ true = h in cc);
              barred = λ h. absurd (let f : false ≡ true = h in cc);
              seen = λ x e. absurd (let f : None ≡ Some x = e in cc);
            };
        notes = λ j told e.
            ⊎_elim
            (λ t.
            ⊎_elim
            (λ s. absurd (let f : Dealer (k + 1) m ≡ Note told = s.1 in cc))
            (λ s. r.notes j told s.1)
            (at_set d.views i j (Dealer (k + 1) m) (Note told) t))
            (λ t. absurd (let f : Holder (new_pen m k) ≡ Note told = t.0 in cc))
            (at_end (set d.views i (Dealer (k + 1) m)) (Holder (new_pen m k)) (Note told) j e);
      }

pub dealing_keeps : DealingKeepsRule
dealing_keeps d seat next room m at_seat inside = (m.0, m.1, split_keeps d m.0 m.1 m.2 seat next room at_seat inside)
