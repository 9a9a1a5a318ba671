-- What a leader owes to the steps by which it applies a request of its own, or frees the lock.
use Rattle.std.proofs.Common.{◌≡◌, ℕ, ◌+◌, ◌<◌, Bool, true, List, [], ◌∷◌, ap, sym, ◌∙◌, subst, Some, None}
use Rattle.std.specs.Prelude.{Option, max, min, length}
use mathlib.Core.Option.{none}
use Rattle.atomic_table.specs.Table.{Allows, step, rest}
use Rattle.pq_types.specs.Asked.{Request, Operation}
use Rattle.pq_types.specs.Entry.{IsProperOperationOf}
use Rattle.pq_types.specs.Asked.{Answer}
use Rattle.pq_types.specs.declared.journal.TheConstants.{GREATEST_NUMBER}
use Rattle.pq_types.specs.Queue.{IsProperRequestOf}
use Rattle.pq_types.specs.History.{journal_after, journal_by, MayDo, MayAnswer}
use Rattle.wait_list.specs.Waiters.{Change, changed}
use Rattle.pq_book.specs.Book.{Volume, limits_of, KeepsTerms}
use Rattle.pq_book.specs.Stock.{with_waiters, settled_book}
use Rattle.desk_core.specs.declared.model.PenState.{PenState}
use Rattle.pq_book.specs.Pages.{page_of}
use Rattle.desk_core.specs.Knows.{Knows}
use Rattle.desk_core.specs.Layout.{lock_at}
use Rattle.desk_core.specs.Pen.{IsIdle, after_apply, after_archive, after_change, after_release_by, book_with, book_in_hand, limits_in_hand}
use Rattle.desk_core.specs.declared.model.View.TheVariants.{Holder}
use Rattle.announce_board.specs.Rule.{Keeps, Seated}
use Rattle.announce_board.specs.declared.terms.Terms.{Terms}
use Rattle.announce_board.specs.Slots.{Slotted, with_book, out, book_of}
use Rattle.announce_board.specs.Steps.{pen_at, Applied, Archived, Changed, Released, ReleasedWith}
use Rattle.announce_board.specs.Allowed.{ApplyAllowed, ArchiveAllowed, ChangeAllowed, ReleaseAllowed, ReleaseWithAllowed}

-- what a Book answers is said of the one in hand, which it is
pub in_hand : (p : PenState) (b : Volume) (q : Operation) (x : Answer) → b ≡ book_in_hand p → MayDo (limits_of b) b.journal q x → MayDo (limits_in_hand p) p.hand q x
in_hand p b q x e may = subst (λ (h : Volume). MayDo (limits_of h) h.journal q x) e may

pub release_owes : (wide : Bool) (roomy : ℕ → Type 0) → ReleaseAllowed wide roomy → (room : ℕ) (terms : Terms) (places slots id : ℕ) (m n : Seated) (b : Volume) → m.0 ≡ Holder (pen_at m) → (pen_at m).leading ≡ true → b ≡ settled_book (book_in_hand (pen_at m))
    → ◌≡◌ {A = Seated} n (m.0, (0, with_book b) ∷ rest m.1) → Allows (Keeps wide roomy room terms places) slots id n lock_at (λ _. 0) (λ _. Released (step slots lock_at 0 0 none) n 0)
release_owes wide roomy allowed room terms places slots id m n b is leads book e =
    let F : Seated → Type 0 = λ x. Allows (Keeps wide roomy room terms places) slots id x lock_at (λ _. 0) (λ _. Released (step slots lock_at 0 0 none) x 0) in
    let now : Seated = (m.0, (0, with_book b) ∷ rest m.1) in
    subst F (sym e) (allowed room terms places slots id now is (rest m.1) (ap (λ x. (0, with_book x) ∷ rest m.1) book) leads)

-- a Book is known by its five parts
pub same_volume : (b c : Volume) → b.room ≡ c.room → b.bound ≡ c.bound → b.allowed ≡ c.allowed → b.journal ≡ c.journal → b.waiters ≡ c.waiters → b ≡ c
same_volume b c r o a j w =
    ap (λ n. record b { room = n }) r
    ∙ (ap (λ n. record b { room = c.room; bound = n }) o
    ∙ (ap (λ n. record b { room = c.room; bound = c.bound; allowed = n }) a
    ∙ (ap (λ l. record c { journal = l; waiters = b.waiters }) j ∙ ap (λ l. record c { waiters = l }) w)))

-- the Book after it has carried out an operation of the pen's own
pub carried_out : (p : PenState) (place serial : ℕ) (b b' : Volume) (q : Operation) (x : Answer) → b ≡ book_in_hand p → place ≡ p.place
    → serial ≡ p.posts + 1 → KeepsTerms b b' → b'.allowed ≡ b.allowed → b'.journal ≡ journal_by b.journal place serial q x
    → b' ≡ book_with p (journal_by p.hand p.place (p.posts + 1) q x)
carried_out p place serial b b' q x book here next terms allowed journal =
    same_volume b' (book_with p (journal_by p.hand p.place (p.posts + 1) q x))
    (terms.0 ∙ ap (λ (v : Volume). v.room) book)
    (terms.1 ∙ ap (λ (v : Volume). v.bound) book)
    (allowed ∙ ap (λ (v : Volume). v.allowed) book)
    (journal ∙ (ap (λ (v : Volume). journal_by v.journal place serial q x) book ∙ (ap (λ k. journal_by p.hand k serial q x) here ∙ ap (λ s. journal_by p.hand p.place s q x) next)))
    (terms.2 ∙ ap (λ (v : Volume). v.waiters) book)

pub release_with_owes : (wide : Bool) (roomy : ℕ → Type 0) → ReleaseWithAllowed wide roomy → (room : ℕ) (terms : Terms) (places slots id : ℕ) (m n : Seated) (b : Volume) (q : Operation) (x : Answer) → m.0 ≡ Holder (pen_at m)
    → (pen_at m).leading ≡ true → (pen_at m).due ≡ None → IsIdle (pen_at m).standing → (pen_at m).posts < GREATEST_NUMBER → IsProperOperationOf true q
    → MayDo (limits_in_hand (pen_at m)) (pen_at m).hand q x
    → b ≡ settled_book (book_with (pen_at m) (journal_by (pen_at m).hand (pen_at m).place ((pen_at m).posts + 1) q x))
    → ◌≡◌ {A = Seated} n (m.0, (0, with_book b) ∷ rest m.1) → Allows (Keeps wide roomy room terms places) slots id n lock_at (λ _. 0) (λ _. ReleasedWith (step slots lock_at 0 0 none) n 0)
release_with_owes wide roomy allowed room terms places slots id m n b q x is leads due idle few proper may book e =
    let F : Seated → Type 0 = λ y. Allows (Keeps wide roomy room terms places) slots id y lock_at (λ _. 0) (λ _. ReleasedWith (step slots lock_at 0 0 none) y 0) in
    let now : Seated = (m.0, (0, with_book b) ∷ rest m.1) in
    subst F (sym e) (allowed room terms places slots id now is (rest m.1) q x (ap (λ y. (0, with_book y) ∷ rest m.1) book) leads due idle few proper may)

-- and what it is afterwards
pub released_with : (m n after : Seated) (b : Volume) (q : Operation) (x : Answer) → m.1 ≡ (0, out) ∷ []
    → MayDo (limits_in_hand (pen_at m)) (pen_at m).hand q x
    → b ≡ settled_book (book_with (pen_at m) (journal_by (pen_at m).hand (pen_at m).place ((pen_at m).posts + 1) q x))
    → ◌≡◌ {A = Seated} n (m.0, (0, with_book b) ∷ rest m.1) → ReleasedWith (step 0 lock_at 0 0 none) n 0 after
    → ((now : ℕ) × ◌≡◌ {A = Seated} after (Holder (after_release_by (pen_at m) q x now), [])) × Knows (pen_at m).room (pen_at m) (pen_at m).hand
released_with m n after b q x slot may book e told =
    let now : Seated = (m.0, (0, with_book b) ∷ rest m.1) in
    let t : ReleasedWith (step 0 lock_at 0 0 none) now 0 after = subst (λ y. ReleasedWith (step 0 lock_at 0 0 none) y 0 after) e told in
    let s = t q x may (ap (λ y. (0, with_book y) ∷ rest m.1) book) in
    ((s.0.0, s.0.1 ∙ ap (λ l. (Holder (after_release_by (pen_at m) q x s.0.0), rest l)) slot), s.1)

-- the same of the step by which it applies a request of its own, with the Book in the slot
pub apply_owes : (wide : Bool) (roomy : ℕ → Type 0) → ApplyAllowed wide roomy → (room : ℕ) (terms : Terms) (places slots id : ℕ) (m n : Seated) (b : Volume) (q : Request) (x : Answer) → m.0 ≡ Holder (pen_at m)
    → (pen_at m).leading ≡ true → IsIdle (pen_at m).standing → (pen_at m).posts < GREATEST_NUMBER → IsProperRequestOf true q
    → MayAnswer (limits_in_hand (pen_at m)) (pen_at m).hand q x
    → b ≡ book_with (pen_at m) (journal_after (pen_at m).hand (pen_at m).place ((pen_at m).posts + 1) q x)
    → ◌≡◌ {A = Seated} n (m.0, (0, with_book b) ∷ rest m.1) → Allows (Keeps wide roomy room terms places) slots id n lock_at (λ k. k) (Applied (step slots lock_at 0 0 none) n)
apply_owes wide roomy allowed room terms places slots id m n b q x is leads idle few proper may book e =
    let F : Seated → Type 0 = λ y. Allows (Keeps wide roomy room terms places) slots id y lock_at (λ k. k) (Applied (step slots lock_at 0 0 none) y) in
    let now : Seated = (m.0, (0, with_book b) ∷ rest m.1) in
    subst F (sym e) (allowed room terms places slots id now is (rest m.1) q x (ap (λ y. (0, with_book y) ∷ rest m.1) book) leads idle few proper may)

-- and what it is afterwards: it holds the slot with the Book
pub applied : (m n after : Seated) (word : ℕ) (b : Volume) (q : Request) (x : Answer) (held : Slotted) → m.1 ≡ (0, held) ∷ []
    → MayAnswer (limits_in_hand (pen_at m)) (pen_at m).hand q x
    → b ≡ book_with (pen_at m) (journal_after (pen_at m).hand (pen_at m).place ((pen_at m).posts + 1) q x)
    → ◌≡◌ {A = Seated} n (m.0, (0, with_book b) ∷ rest m.1) → Applied (step 0 lock_at 0 0 none) n word after
    → ((now : ℕ) × ◌≡◌ {A = Seated} after (Holder (after_apply (pen_at m) q x now), (0, with_book b) ∷ [])) × Knows (pen_at m).room (pen_at m) (pen_at m).hand
applied m n after word b q x held slot may book e told =
    let now : Seated = (m.0, (0, with_book b) ∷ rest m.1) in
    let t : Applied (step 0 lock_at 0 0 none) now word after = subst (λ y. Applied (step 0 lock_at 0 0 none) y word after) e told in
    let s = t q x may (ap (λ y. (0, with_book y) ∷ rest m.1) book) in
    ((s.0.0, s.0.1 ∙ ap (λ l. (Holder (after_apply (pen_at m) q x s.0.0), (0, with_book b) ∷ rest l)) slot), s.1)

-- the same of the step by which it hears that lines are archived
pub archive_owes : (wide : Bool) (roomy : ℕ → Type 0) → ArchiveAllowed wide roomy → (room : ℕ) (terms : Terms) (places slots id : ℕ) (m n : Seated) (b : Volume) (lines : ℕ) → m.0 ≡ Holder (pen_at m)
    → (pen_at m).leading ≡ true → b ≡ book_in_hand (after_archive (pen_at m) lines)
    → ◌≡◌ {A = Seated} n (m.0, (0, with_book b) ∷ rest m.1) → Allows (Keeps wide roomy room terms places) slots id n lock_at (λ k. k) (Archived (step slots lock_at 0 0 none) n)
archive_owes wide roomy allowed room terms places slots id m n b lines is leads book e =
    let F : Seated → Type 0 = λ y. Allows (Keeps wide roomy room terms places) slots id y lock_at (λ k. k) (Archived (step slots lock_at 0 0 none) y) in
    let now : Seated = (m.0, (0, with_book b) ∷ rest m.1) in
    subst F (sym e) (allowed room terms places slots id now is (rest m.1) lines (ap (λ y. (0, with_book y) ∷ rest m.1) book) leads)

-- and what it is afterwards
pub archived : (m n after : Seated) (word : ℕ) (b : Volume) (lines : ℕ) → m.1 ≡ (0, out) ∷ [] → b ≡ book_in_hand (after_archive (pen_at m) lines)
    → ◌≡◌ {A = Seated} n (m.0, (0, with_book b) ∷ rest m.1) → Archived (step 0 lock_at 0 0 none) n word after
    → ◌≡◌ {A = Seated} after (Holder (after_archive (pen_at m) lines), (0, with_book b) ∷ [])
archived m n after word b lines slot book e told =
    let now : Seated = (m.0, (0, with_book b) ∷ rest m.1) in
    let t : Archived (step 0 lock_at 0 0 none) now word after = subst (λ y. Archived (step 0 lock_at 0 0 none) y word after) e told in
    t lines (ap (λ y. (0, with_book y) ∷ rest m.1) book) ∙ ap (λ l. (Holder (after_archive (pen_at m) lines), (0, with_book b) ∷ rest l)) slot

-- the Book that allows more, by what it was told
pub allows_more : (p : PenState) (b b' : Volume) (lines : ℕ) → b ≡ book_in_hand p → KeepsTerms b b' → b'.journal ≡ b.journal
    → b'.allowed ≡ max b.allowed (min lines (length b.journal) + page_of b.room) → b' ≡ book_in_hand (after_archive p lines)
allows_more p b b' lines book terms journal allowed =
    same_volume b' (book_in_hand (after_archive p lines))
    (terms.0 ∙ ap (λ (v : Volume). v.room) book)
    (terms.1 ∙ ap (λ (v : Volume). v.bound) book)
    (allowed ∙ ap (λ (v : Volume). max v.allowed (min lines (length v.journal) + page_of v.room)) book)
    (journal ∙ ap (λ (v : Volume). v.journal) book)
    (terms.2 ∙ ap (λ (v : Volume). v.waiters) book)

-- the same of the step by which it changes who waits
pub change_owes : (wide : Bool) (roomy : ℕ → Type 0) → ChangeAllowed wide roomy → (room : ℕ) (terms : Terms) (places slots id : ℕ) (m n : Seated) (b : Volume) (change : Change) → m.0 ≡ Holder (pen_at m)
    → (pen_at m).leading ≡ true → b ≡ book_in_hand (after_change (pen_at m) change)
    → ◌≡◌ {A = Seated} n (m.0, (0, with_book b) ∷ rest m.1) → Allows (Keeps wide roomy room terms places) slots id n lock_at (λ k. k) (Changed (step slots lock_at 0 0 none) n)
change_owes wide roomy allowed room terms places slots id m n b change is leads book e =
    let F : Seated → Type 0 = λ y. Allows (Keeps wide roomy room terms places) slots id y lock_at (λ k. k) (Changed (step slots lock_at 0 0 none) y) in
    let now : Seated = (m.0, (0, with_book b) ∷ rest m.1) in
    subst F (sym e) (allowed room terms places slots id now is (rest m.1) change (ap (λ y. (0, with_book y) ∷ rest m.1) book) leads)

-- and what it is afterwards
pub changed_so : (m n after : Seated) (word : ℕ) (b : Volume) (change : Change) → m.1 ≡ (0, out) ∷ [] → b ≡ book_in_hand (after_change (pen_at m) change)
    → ◌≡◌ {A = Seated} n (m.0, (0, with_book b) ∷ rest m.1) → Changed (step 0 lock_at 0 0 none) n word after
    → ◌≡◌ {A = Seated} after (Holder (after_change (pen_at m) change), (0, with_book b) ∷ [])
changed_so m n after word b change slot book e told =
    let now : Seated = (m.0, (0, with_book b) ∷ rest m.1) in
    let t : Changed (step 0 lock_at 0 0 none) now word after = subst (λ y. Changed (step 0 lock_at 0 0 none) y word after) e told in
    t change (ap (λ y. (0, with_book y) ∷ rest m.1) book) ∙ ap (λ l. (Holder (after_change (pen_at m) change), (0, with_book b) ∷ rest l)) slot

-- the Book at which others wait, by what was changed
pub changed_book : (p : PenState) (b b' : Volume) (change : Change) → b ≡ book_in_hand p → b' ≡ with_waiters b (changed change b.waiters) → b' ≡ book_in_hand (after_change p change)
changed_book p b b' change book is = is ∙ ap (λ (v : Volume). with_waiters v (changed change v.waiters)) book

abbrev first_slot : List (ℕ × Slotted) → Option Volume
first_slot [] = None
first_slot (x ∷ xs) = book_of x.1

-- the one Book in a slot
pub same_held : (b b' : Volume) (l : List (ℕ × Slotted)) → l ≡ (0, with_book b) ∷ [] → l ≡ (0, with_book b') ∷ [] → b ≡ b'
same_held b b' l e f = let g : Some b ≡ Some b' = sym (ap first_slot e) ∙ ap first_slot f in cc
