-- What a store with tickets removes is the entry of that line, also where another was put in before.
use Rattle.std.proofs.Common.{◌≡◌, ◌≢◌, ℕ, ◌<◌, Bool, true, false, List, [], ◌∷◌, refl, sym, ◌∙◌, ap, arith, ne_eqb}
use Rattle.std.specs.Prelude.{◌==◌, if◌then◌else◌, Some, None}
use Rattle.std.specs.List.{AllByRecursion}
use Rattle.std.proofs.lemmas.Bool.Decides.{nat_tests}
use Rattle.std.specs.Option.{option_map}
use Rattle.leftist_heap.specs.Tickets.{item_with, without_ticket}
use Rattle.leftist_heap.specs.Order.{IsAscendingBy, not_above_by}
use Rattle.pq_types.specs.Item.{Item}
use Rattle.pq_types.specs.Entry.{Entry, item_of, item_at, entry_not_above, with_entry, without}
use Rattle.pq_book.specs.EntryOrder.{entry_cmp}

pub without_line : (i : ℕ) (es : List Entry) → without_ticket (λ e. e.line) i es ≡ without i es
without_line i [] = refl
without_line i (e ∷ es) = ap (λ fs. if e.line == i then es else e ∷ fs) (without_line i es)

pub item_there : (i : ℕ) (es : List Entry) → option_map item_of (item_with (λ e. e.line) i es) ≡ item_at i es
item_there i [] = refl
item_there i (e ∷ es) = at_choice (item_there i es) (e.line == i) where
  at_choice : option_map item_of (item_with (λ e. e.line) i es) ≡ item_at i es → (b : Bool)
      → option_map item_of (if b then Some e else item_with (λ e. e.line) i es) ≡ (if b then Some (item_of e) else item_at i es)
  at_choice rest true = refl
  at_choice rest false = rest

-- an entry whose priority is below that of the first of an ascending list goes before it
put_first : (e f : Entry) (es : List Entry) → entry_not_above f e ≡ false → AllByRecursion (λ g. not_above_by entry_cmp f g ≡ true) es
    → with_entry e es ≡ e ∷ es
put_first e f [] above a = refl
put_first e f (g ∷ es) above a = ap (λ b. if b then g ∷ with_entry e es else e ∷ g ∷ es) (still_above a.0) where
  still_above : not_above_by entry_cmp f g ≡ true → entry_not_above g e ≡ false
  still_above h = grind (arith, nat_tests, above, h)

-- to take an entry out is the same before another is put in and after
pub without_put : (i : ℕ) (e : Entry) (es : List Entry) → e.line ≢ i → IsAscendingBy (not_above_by entry_cmp) es
    → without i (with_entry e es) ≡ with_entry e (without i es)
without_put i e [] other a = ap (λ b. if b then [] else e ∷ []) (ne_eqb e.line i other)
without_put i e (f ∷ es) other a = at_choice (without_put i e es other a.1) (entry_not_above f e) (f.line == i) refl refl where
  first : entry_not_above f e ≡ false → (c : Bool) → with_entry e (if c then es else f ∷ without i es) ≡ e ∷ (if c then es else f ∷ without i es)
  first above true = put_first e f es above a.0
  first above false = ap (λ b. if b then f ∷ with_entry e (without i es) else e ∷ f ∷ without i es) above

  at_choice : without i (with_entry e es) ≡ with_entry e (without i es) → (b c : Bool) → entry_not_above f e ≡ b → (f.line == i) ≡ c
      → without i (if b then f ∷ with_entry e es else e ∷ f ∷ es) ≡ with_entry e (if c then es else f ∷ without i es)
  at_choice rest true true low is = ap (λ c. if c then with_entry e es else f ∷ without i (with_entry e es)) is
  at_choice rest true false low is =
      ap (λ c. if c then with_entry e es else f ∷ without i (with_entry e es)) is ∙ ap (λ xs. f ∷ xs) rest
      ∙ sym (ap (λ b. if b then f ∷ with_entry e (without i es) else e ∷ f ∷ without i es) low)
  at_choice rest false c above is =
      ap (λ d. if d then f ∷ es else e ∷ without i (f ∷ es)) (ne_eqb e.line i other) ∙ ap (λ d. e ∷ (if d then es else f ∷ without i es)) is
      ∙ sym (first above c)

-- the line of an entry that waits is none that is still to come
pub not_to_come : (i n : ℕ) (es : List Entry) (x : Item) → AllByRecursion (λ e. e.line < n) es → item_at i es ≡ Some x → i ≢ n
not_to_come i n [] x below told = absurd (nothing told) where
  nothing : None ≡ Some x → ⊥
  nothing e = cc
not_to_come i n (e ∷ es) x below told = at_choice (not_to_come i n es x below.1) (e.line == i) refl told where
  at_choice : (item_at i es ≡ Some x → i ≢ n) → (b : Bool) → (e.line == i) ≡ b → (if b then Some (item_of e) else item_at i es) ≡ Some x → i ≢ n
  at_choice rest true is here =
      let own : e.line ≡ i = grind (arith, nat_tests, is) in
      λ same. omega (arith, below.0, own, same)
  at_choice rest false is there = rest there
