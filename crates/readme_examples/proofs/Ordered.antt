-- Lists of items that ascend by priority.
use Rattle.std.proofs.Common.{◌≡◌, ◌∙◌, ap, sym, refl, Bool, true, false, cond, ℕ, ◌+◌, ◌<◌, List, [], ◌∷◌, ◌++◌, length, take, get_or, arith}
use Rattle.std.specs.Prelude.{◌==◌, if◌then◌else◌}
use Rattle.std.specs.List.{AllByRecursion}
use Rattle.std.proofs.lemmas.Bool.Decides.{nat_tests}
use Rattle.std.proofs.lemmas.List.{append_assoc, append-nil}
use Rattle.std.proofs.lemmas.List.Elements.{filter-append, filter_more}
use Rattle.pq_types.specs.Item.{Item}
use Rattle.pq_types.specs.Item.{not_above}
use Rattle.pq_types.specs.Queue.{IsAscending, with_item}
use Rattle.readme_examples.specs.Deadlines.{due_at}

pub all_weaker : {P Q : Item → Type 0} → ((x : Item) → P x → Q x) → (xs : List Item) → AllByRecursion P xs → AllByRecursion Q xs
all_weaker h [] p = tt
all_weaker h (x ∷ xs) p = (h x p.0, all_weaker h xs p.1)

-- no job of a later deadline is due
none_due : (deadline : ℕ) (ys : List Item) → AllByRecursion (λ y. deadline < y.priority) ys → due_at deadline ys ≡ []
none_due deadline [] later = refl
none_due deadline (y ∷ ys) later =
    let other : (y.priority == deadline) ≡ false = grind (arith, nat_tests, later.0) in
    rw other (none_due deadline ys later.1)

-- a job before later ones may as well stand behind them, where one deadline is looked at
before_later : (deadline : ℕ) (x : Item) (ys : List Item) → AllByRecursion (λ y. x.priority < y.priority) ys
    → due_at deadline (x ∷ ys) ≡ due_at deadline ys ++ due_at deadline (x ∷ [])
before_later deadline x ys later = at_choice (x.priority == deadline) refl where
  at_choice : (b : Bool) → (x.priority == deadline) ≡ b
      → cond b (x ∷ due_at deadline ys) (due_at deadline ys) ≡ due_at deadline ys ++ cond b (x ∷ []) []
  at_choice true same =
      let none : due_at deadline ys ≡ [] = none_due deadline ys (all_weaker (λ y h. grind (arith, nat_tests, same, h)) ys later) in
      rw none refl
  at_choice false other = sym (append-nil (due_at deadline ys))

-- of each deadline a job that arrives comes behind those that have arrived
pub due_with : (deadline : ℕ) (x : Item) (ys : List Item) → IsAscending ys
    → due_at deadline (with_item x ys) ≡ due_at deadline ys ++ due_at deadline (x ∷ [])
due_with deadline x [] a = refl
due_with deadline x (y ∷ ys) a = at_choice (due_with deadline x ys a.1) (not_above y x) refl where
  first : (zs : List Item) → due_at deadline (y ∷ zs) ≡ due_at deadline (y ∷ []) ++ due_at deadline zs
  first zs = filter-append (λ job. job.priority == deadline) (y ∷ []) zs

  at_choice : due_at deadline (with_item x ys) ≡ due_at deadline ys ++ due_at deadline (x ∷ []) → (b : Bool) → not_above y x ≡ b
      → due_at deadline (if b then y ∷ with_item x ys else x ∷ y ∷ ys) ≡ due_at deadline (y ∷ ys) ++ due_at deadline (x ∷ [])
  at_choice rest true low =
      first (with_item x ys) ∙ ap (λ zs. due_at deadline (y ∷ []) ++ zs) rest
      ∙ sym (append_assoc (due_at deadline (y ∷ [])) (due_at deadline ys) (due_at deadline (x ∷ [])))
      ∙ ap (λ zs. zs ++ due_at deadline (x ∷ [])) (sym (first ys))
  at_choice rest false high =
      let above : x.priority < y.priority = grind (arith, nat_tests, high) in
      before_later deadline x (y ∷ ys) (above, all_weaker (λ z h. grind (arith, nat_tests, above, h)) ys a.0)

-- the same of one more of the jobs that arrive
pub due_with_next : (deadline : ℕ) (jobs : List Item) (i : ℕ) (d : Item) (held after : List Item) → i < length jobs → IsAscending held
    → due_at deadline held ≡ due_at deadline (take i jobs)
    → after ≡ with_item (get_or jobs i d) held → due_at deadline after ≡ due_at deadline (take (i + 1) jobs)
due_with_next deadline jobs i d held after more a so_far with_next =
    ap (due_at deadline) with_next ∙ due_with deadline (get_or jobs i d) held a ∙ ap (λ zs. zs ++ due_at deadline (get_or jobs i d ∷ [])) so_far
    ∙ sym (filter_more (λ job. job.priority == deadline) jobs i d more)

-- what holds of each item, and of one that is put in
pub all_with : (P : Item → Type 0) (x : Item) (ys : List Item) → P x → AllByRecursion P ys → AllByRecursion P (with_item x ys)
all_with P x [] p ps = (p, tt)
all_with P x (y ∷ ys) p ps =
    elim (not_above y x) as (λ b. AllByRecursion P
    (if b then y ∷ with_item x ys else x ∷ y ∷ ys)) [ true ↦ (ps.0, all_with P x ys p ps.1) | false ↦ (p, ps) ]

-- there is one item more then
pub length-with : (x : Item) (ys : List Item) → length (with_item x ys) ≡ length ys + 1
length-with x [] = refl
length-with x (y ∷ ys) =
    elim (not_above y x) as (λ b. length (if b then y ∷ with_item x ys else x ∷ y ∷ ys)
    ≡ length (y ∷ ys) + 1) [ true ↦ omega (arith, length-with x ys) | false ↦ omega arith ]

-- an item that none is above goes to the end
pub with_last : (x : Item) (ys : List Item) → AllByRecursion (λ y. not_above y x ≡ true) ys → with_item x ys ≡ ys ++ x ∷ []
with_last x [] low = refl
with_last x (y ∷ ys) low = rw low.0 (ap (λ zs. y ∷ zs) (with_last x ys low.1))

all_before : (y x : Item) (xs ys : List Item) → AllByRecursion (λ z. not_above y z ≡ true) (xs ++ x ∷ ys) → not_above y x ≡ true
all_before y x [] ys h = h.0
all_before y x (z ∷ xs) ys h = all_before y x xs ys h.1

-- none that stands before an item is above it
pub before_is_low : (xs : List Item) (x : Item) (ys : List Item) → IsAscending (xs ++ x ∷ ys) → AllByRecursion (λ y. not_above y x ≡ true) xs
before_is_low [] x ys a = tt
before_is_low (y ∷ xs) x ys a = (all_before y x xs ys a.0, before_is_low xs x ys a.1)

pub all_more : (P : Item → Type 0) (xs : List Item) (x : Item) → AllByRecursion P xs → P x → AllByRecursion P (xs ++ x ∷ [])
all_more P [] x h p = (p, tt)
all_more P (y ∷ ys) x h p = (h.0, all_more P ys x h.1 p)

-- an ascending list stays one with an item at its end that none is above
pub ascending_more : (xs : List Item) (x : Item) → IsAscending xs → AllByRecursion (λ y. not_above y x ≡ true) xs → IsAscending (xs ++ x ∷ [])
ascending_more [] x a low = (tt, tt)
ascending_more (y ∷ ys) x a low = (all_more (λ z. not_above y z ≡ true) ys x a.0 low.0, ascending_more ys x a.1 low.1)
