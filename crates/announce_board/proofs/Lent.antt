-- What a leader owes to the step by which it applies a request of its own while the Book lies in its slot, and what it is then.
use Rattle.std.proofs.Common.{◌≡◌, ℕ, ◌+◌, ◌<◌, Bool, true, List, [], ◌∷◌, refl, ap, sym, ◌∙◌, subst, Some, arith}
use mathlib.Core.Option.{none}
use Rattle.atomic_table.specs.Table.{Allows, step, rest}
use Rattle.atomic_table.specs.Seated.{TableId}
use Rattle.pq_types.specs.Asked.{Request, Answer}
use Rattle.pq_types.specs.Operation.{Asked}
use Rattle.pq_types.specs.declared.journal.TheConstants.{GREATEST_NUMBER}
use Rattle.pq_types.specs.Queue.{IsProperRequestOf}
use Rattle.pq_types.specs.History.{journal_after, MayAnswer, last_serial}
use Rattle.pq_book.specs.Book.{Volume}
use Rattle.desk_core.specs.Knows.{Knows, NoneAbove}
use Rattle.desk_core.specs.Layout.{lock_at}
use Rattle.desk_core.specs.Pen.{IsIdle, after_apply, book_with, book_in_hand, limits_in_hand}
use Rattle.desk_core.specs.declared.model.PenState.{PenState}
use Rattle.desk_core.specs.declared.model.View.TheVariants.{Holder}
use Rattle.announce_board.specs.Rule.{Keeps, Seated}
use Rattle.announce_board.specs.declared.terms.Terms.{Terms}
use Rattle.announce_board.specs.Slots.{Slotted, with_book, out, book_of, CarriesOut}
use Rattle.announce_board.specs.Steps.{pen_at, Applied}
use Rattle.announce_board.specs.Allowed.{ApplyAllowed}
use Rattle.announce_board.specs.Batches.{IsLent}
use Rattle.announce_board.proofs.Homes.{in_hand, carried_out, apply_owes, applied}
use Rattle.announce_board.proofs.Leads.{none_above_gained}
use Rattle.announce_board.proofs.ToldLemmas.{above_the_last}

-- a slot has one Book
pub same_book : (b c : Volume) → with_book b ≡ with_book c → b ≡ c
same_book b c e = let f : Some b ≡ Some c = ap book_of e in cc

abbrev value_of : List (ℕ × Slotted) → Slotted
value_of [] = out
value_of (x ∷ xs) = x.1

-- what lies in the one slot that is held
pub value_held : (held : List (ℕ × Slotted)) (s t : Slotted) → held ≡ (0, t) ∷ [] → held ≡ (0, s) ∷ rest held → s ≡ t
value_held held s t is e = sym (ap value_of e) ∙ ap value_of is

pub value_lent : (table : TableId) (place posts : ℕ) (m : Seated) (s : Slotted) → IsLent table place posts m → m.1 ≡ (0, s) ∷ rest m.1 → s ≡ with_book (book_in_hand (pen_at m))
value_lent table place posts m s lent e = value_held m.1 s (with_book (book_in_hand (pen_at m))) lent.slot e

-- the Book there after it has carried a request out, as it may
pub carried_in : (wide : Bool) (p : PenState) (place posts : ℕ) (q : Request) (x : Answer) (s t : Slotted) → s ≡ with_book (book_in_hand p) → place ≡ p.place → posts ≡ p.posts
    → CarriesOut wide place (posts + 1) q s x t → (t ≡ with_book (book_with p (journal_after p.hand p.place (p.posts + 1) q x))) × MayAnswer (limits_in_hand p) p.hand q x
carried_in wide p place posts q x s t there here counted c =
    let same : c.book ≡ book_in_hand p = same_book c.book (book_in_hand p) (sym c.was ∙ there) in
    (c.is ∙ ap with_book (carried_out p place (posts + 1) c.book c.next (Asked q) x same here (ap (λ n. n + 1) counted) c.terms c.allowed c.journal), in_hand p c.book (Asked q) x same c.may)

pub lent_owes : (wide : Bool) (roomy : ℕ → Type 0) → ApplyAllowed wide roomy → (room : ℕ) (terms : Terms) (places slots id : ℕ) (table : TableId) (place posts : ℕ) (m n : Seated) (q : Request) (x : Answer) (s t : Slotted)
    → IsLent table place posts m → posts < GREATEST_NUMBER → IsProperRequestOf true q → m.1 ≡ (0, s) ∷ rest m.1 → CarriesOut wide place (posts + 1) q s x t
    → ◌≡◌ {A = Seated} n (m.0, (0, t) ∷ rest m.1) → Allows (Keeps wide roomy room terms places) slots id n lock_at (λ k. k) (Applied (step slots lock_at 0 0 none) n)
lent_owes wide roomy allowed room terms places slots id table place posts m n q x s t lent few proper e c is =
    let p = pen_at m in
    let b = book_with p (journal_after p.hand p.place (p.posts + 1) q x) in
    let d = carried_in wide p place posts q x s t (value_lent table place posts m s lent e) lent.here lent.counted c in
    apply_owes wide roomy allowed room terms places slots id m n b q x lent.is lent.leads lent.idle (subst (λ k. k < GREATEST_NUMBER) lent.counted few) proper d.1 refl
    (is ∙ ap (λ y. (m.0, (0, y) ∷ rest m.1)) d.0)

-- what the leader is afterwards, may have answered, and knew
pub record Lent (table : TableId) (place posts : ℕ) (m after : Seated) (q : Request) (x : Answer) : Type 0 where
  pub now : ℕ
  pub lent : IsLent table place (posts + 1) after
  pub after_is : pen_at after ≡ after_apply (pen_at m) q x now
  pub may : MayAnswer (limits_in_hand (pen_at m)) (pen_at m).hand q x
  pub knows : Knows (pen_at m).room (pen_at m) (pen_at m).hand

pub lent_told : (wide : Bool) (table : TableId) (place posts : ℕ) (m n after : Seated) (word : ℕ) (q : Request) (x : Answer) (s t : Slotted) → IsLent table place posts m
    → m.1 ≡ (0, s) ∷ rest m.1 → CarriesOut wide place (posts + 1) q s x t → ◌≡◌ {A = Seated} n (m.0, (0, t) ∷ rest m.1) → Applied (step 0 lock_at 0 0 none) n word after → Lent table place posts m after q x
lent_told wide table place posts m n after word q x s t lent e c is told =
    let p = pen_at m in
    let b = book_with p (journal_after p.hand p.place (p.posts + 1) q x) in
    let d = carried_in wide p place posts q x s t (value_lent table place posts m s lent e) lent.here lent.counted c in
    let both = applied m n after word b q x (with_book (book_in_hand p)) lent.slot d.1 refl (is ∙ ap (λ y. (m.0, (0, y) ∷ rest m.1)) d.0) told in
    let a = both.0 in
    record {
      now = a.0;
      lent = subst (IsLent table place (posts + 1)) (sym a.1)
          record {
            is = refl;
            slot = refl;
            lock = lent.lock;
            leads = lent.leads;
            idle = (_, refl);
            here = lent.here;
            counted = ap (λ k. k + 1) lent.counted;
            used = none_above_gained p.place p.posts p.hand q x lent.used;
          };
      after_is = ap pen_at a.1;
      may = d.1;
      knows = both.1;
    }

-- the next serial is above each one that the place has in the Book there
pub serial_above : (table : TableId) (place posts : ℕ) (m : Seated) → IsLent table place posts m → posts < GREATEST_NUMBER → last_serial place (pen_at m).hand < posts + 1
serial_above table place posts m lent few =
    let p = pen_at m in
    let below : last_serial p.place p.hand < p.posts + 1 = above_the_last p.place (p.posts + 1) p.hand (omega arith, omega (arith, few, lent.counted)) lent.used in
    subst (λ k. last_serial k p.hand < posts + 1) (sym lent.here) (subst (λ n. last_serial p.place p.hand < n + 1) (sym lent.counted) below)

-- the seat of an idle leader that has lent its Book
pub is_lent : (table : TableId) (place posts : ℕ) (m n : Seated) (b : Volume) → m.0 ≡ Holder (pen_at m) → lock_at < table.words → (pen_at m).leading ≡ true → IsIdle (pen_at m).standing → place ≡ (pen_at m).place
    → posts ≡ (pen_at m).posts → NoneAbove (pen_at m).place (pen_at m).posts (pen_at m).hand → b ≡ book_in_hand (pen_at m) → ◌≡◌ {A = Seated} n (m.0, (0, with_book b) ∷ []) → IsLent table place posts n
is_lent table place posts m n b is lock leads idle here counted used book e =
    subst (IsLent table place posts) (sym e)
    record { is = is; slot = ap (λ v. (0, with_book v) ∷ []) book; lock = lock; leads = leads; idle = idle; here = here; counted = counted; used = used }
