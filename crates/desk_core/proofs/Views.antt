-- The pens after one of them has changed.
use Rattle.std.proofs.Common.{◌≡◌, ◌≢◌, ℕ, suc, zero, ◌<◌, ⊎_elim, Bool, List, [], ◌∷◌, length, set, refl, ap, sym, ◌∙◌, subst, arith}
use Rattle.std.specs.Prelude.{Option}
use mathlib.Core.Option.{some}
use lib.ListN.{get_elem?}
use mathlib.Core.Logic.{dite}
use native.Mathlib.Decide.{ℕ_discrete}
use Rattle.atomic_table.proofs.Lists.{at_set, set_here, set_else}
use Rattle.desk_core.specs.declared.model.PenState.{PenState}
use Rattle.desk_core.specs.declared.model.View.{View}
use Rattle.desk_core.specs.declared.model.View.TheVariants.{Dealer, Holder, Note}
use Rattle.pq_types.specs.Item.{Item}
use Rattle.pq_types.specs.declared.control.Control.{Control}
use Rattle.pq_types.specs.declared.control.Control.TheVariants.{Nothing}
use Rattle.pq_types.specs.Asked.{Line}
use Rattle.pq_book.specs.Book.{Volume}
use Rattle.desk_core.specs.Desk.{Desk, Has}
use Rattle.desk_core.specs.Rule.{Places}

-- the desk with these cells and this home Book, and with this pen at the seat
abbrev pub becomes : Desk → Bool → (ℕ → Control) → (ℕ → Item) → Option Volume → ℕ → PenState → Desk
becomes d held control item home i w = record d { held = held; control = control; item = item; home = home; views = set d.views i (Holder w) }

pub same_pen : (views : List View) (i : ℕ) (p q : PenState) → Has views i p → Has views i q → p ≡ q
same_pen views i p q a b = let e : some (Holder p) ≡ some (Holder q) = sym a ∙ b in cc

length_at : {A : Type 0} (xs : List A) (i : ℕ) (a : A) → get_elem? xs i ≡ some a → i < length xs
length_at [] i a e = absurd (cc e)
length_at (x ∷ xs) zero a e = omega arith
length_at (x ∷ xs) (suc i) a e = let h = length_at xs i a e in omega arith

pub has_here : (views : List View) (i : ℕ) (p w : PenState) → Has views i p → Has (set views i (Holder w)) i w
has_here views i p w a = set_here views i (Holder w) (length_at views i (Holder p) a)

pub has_else : (views : List View) (i j : ℕ) (w q : PenState) → j ≢ i → Has views j q → Has (set views i (Holder w)) j q
has_else views i j w q ne a = set_else views i j (Holder w) ne ∙ a

-- what holds of the new pen, and of each other, holds of each
pub each_after : (views : List View) (i : ℕ) (w : PenState) (Q : ℕ → PenState → Type 0) → Q i w → ((j : ℕ) (q : PenState) → j ≢ i → Has views j q → Q j q)
    → (j : ℕ) (q : PenState) → Has (set views i (Holder w)) j q → Q j q
each_after views i w Q here else j q a =
    ⊎_elim
    (λ t. let e : w ≡ q = cc (t.1) in subst (λ (k : ℕ). Q k q) (sym t.0) (subst (λ (v : PenState). Q i v) e here))
    (λ t. else j q t.0 t.1)
    (at_set views i j (Holder w) (Holder q) a)

owner_stays : (views : List View) (i k : ℕ) (p w : PenState) → Has views i p → w.place ≡ p.place → (j : ℕ) (q : PenState) → Has views j q → q.place ≡ k
    → (h : ℕ) × (v : PenState) × Has (set views i (Holder w)) h v × (v.place ≡ k)
owner_stays views i k p w a same j q b e =
    dite (ℕ_discrete j i)
    (λ t. (i, w, has_here views i p w a, let d : p ≡ q = same_pen views i p q a (subst (λ n. Has views n q) t b) in same ∙ (ap (λ (v : PenState). v.place) d ∙ e)))
    (λ ne. (j, q, has_else views i j w q ne b, e))

-- each pen keeps its place
pub places_keep : (d : Desk) (held : Bool) (control : ℕ → Control) (item : ℕ → Item) (home : Option Volume) (i : ℕ) (p w : PenState) → Places d
    → Has d.views i p → w.place ≡ p.place
    → ((k : ℕ) → control k ≢ Nothing → (j : ℕ) × (q : PenState) × Has d.views j q × (q.place ≡ k))
    → Places (becomes d held control item home i w)
places_keep d held control item home i p w r a same owned =
    record {
      inside = each_after d.views i w (λ _ q. q.place < d.places) (rw same (r.inside i p a)) (λ j q ne b. r.inside j q b);
      apart = λ j k q v b c e.
          (let other : (h : ℕ) (u : PenState) → h ≢ i → Has d.views h u → u.place ≡ w.place → ⊥ = λ h u ne b' e'. ne (r.apart h i u p b' a (e' ∙ same)) in
          let at_i : (h : ℕ) (u : PenState) → Has (set d.views i (Holder w)) h u → w.place ≡ u.place → i ≡ h =
          each_after d.views i w (λ h u. w.place ≡ u.place → i ≡ h) (λ _. refl) (λ h u ne b' e'. absurd (other h u ne b' (sym e'))) in
          each_after d.views i w (λ h u. u.place ≡ v.place → h ≡ k)
          (at_i k v c)
          (λ h u ne b'. each_after d.views i w (λ g y. u.place ≡ y.place → h ≡ g) (λ e'. absurd (other h u ne b' e')) (λ g y ne' c' e'. r.apart h g u y b' c' e') k v c)
          j q b e);
      owned = λ k h. (let t = owned k h in owner_stays d.views i k p w a same t.0 t.1 t.2 t.3);
    }

-- a dealer's seat is one that did not change
pub dealer_else : (views : List View) (i h n m : ℕ) (w : PenState) → get_elem? (set views i (Holder w)) h ≡ some (Dealer n m)
    → get_elem? views h ≡ some (Dealer n m)
dealer_else views i h n m w e = ⊎_elim (λ t. absurd (let d : Holder w ≡ Dealer n m = t.1 in cc)) (λ t. t.1) (at_set views i h (Holder w) (Dealer n m) e)

-- and so is a note's
pub note_else : (views : List View) (i h : ℕ) (told : List Line) (w : PenState) → get_elem? (set views i (Holder w)) h ≡ some (Note told)
    → get_elem? views h ≡ some (Note told)
note_else views i h told w e = ⊎_elim (λ t. absurd (let d : Holder w ≡ Note told = t.1 in cc)) (λ t. t.1) (at_set views i h (Holder w) (Note told) e)
