-- Ascending lists in any order: their parts, and where an item goes.
use Rattle.std.proofs.Common.{◌≡◌, ◌++◌, List, [], ◌∷◌, Bool, true, false, if◌then◌else◌, refl, ◌∙◌, ap}
use Rattle.std.specs.List.{AllByRecursion}
use Rattle.leftist_heap.specs.Order.{IsAscendingBy, with_item_by}

-- what holds of each item of two lists holds of both together
pub all-append : {X : Type 0} (P : X → Type 0) (xs ys : List X) → AllByRecursion P xs → AllByRecursion P ys → AllByRecursion P (xs ++ ys)
all-append P [] ys p q = q
all-append P (x ∷ xs) ys p q = (p.0, all-append P xs ys p.1 q)

pub all-front : {X : Type 0} (P : X → Type 0) (xs ys : List X) → AllByRecursion P (xs ++ ys) → AllByRecursion P xs
all-front P [] ys p = tt
all-front P (x ∷ xs) ys p = (p.0, all-front P xs ys p.1)

pub all-back : {X : Type 0} (P : X → Type 0) (xs ys : List X) → AllByRecursion P (xs ++ ys) → AllByRecursion P ys
all-back P [] ys p = p
all-back P (x ∷ xs) ys p = all-back P xs ys p.1

pub all-weaker : {X : Type 0} (P Q : X → Type 0) → ((x : X) → P x → Q x) → (xs : List X) → AllByRecursion P xs → AllByRecursion Q xs
all-weaker P Q h [] p = tt
all-weaker P Q h (x ∷ xs) p = (h x p.0, all-weaker P Q h xs p.1)

module _ {X : Type 0} (goes_before : X → X → Bool) where
  pub ascending-front : (xs ys : List X) → IsAscendingBy goes_before (xs ++ ys) → IsAscendingBy goes_before xs
  ascending-front [] ys a = tt
  ascending-front (x ∷ xs) ys a = (all-front (λ y. goes_before x y ≡ true) xs ys a.0, ascending-front xs ys a.1)

  pub ascending-back : (xs ys : List X) → IsAscendingBy goes_before (xs ++ ys) → IsAscendingBy goes_before ys
  ascending-back [] ys a = a
  ascending-back (x ∷ xs) ys a = ascending-back xs ys a.1

  -- all that stand in front of an item may stand before it
  pub ascending-across : (xs : List X) (z : X) (ys : List X) → IsAscendingBy goes_before (xs ++ z ∷ ys)
      → AllByRecursion (λ x. goes_before x z ≡ true) xs
  ascending-across [] z ys a = tt
  ascending-across (x ∷ xs) z ys a = ((all-back (λ y. goes_before x y ≡ true) xs (z ∷ ys) a.0).0, ascending-across xs z ys a.1)

  with_item-here : (x : X) (ys : List X) → AllByRecursion (λ y. goes_before y x ≡ false) ys → with_item_by goes_before x ys ≡ x ∷ ys
  with_item-here x [] p = refl
  with_item-here x (y ∷ ys) p = ap (λ (b : Bool). if b then y ∷ with_item_by goes_before x ys else x ∷ y ∷ ys) p.0

  -- an item goes between those that may stand before it and those that may not
  pub with_item-between : (x : X) (lows highs : List X) → AllByRecursion (λ y. goes_before y x ≡ true) lows
      → AllByRecursion (λ y. goes_before y x ≡ false) highs → with_item_by goes_before x (lows ++ highs) ≡ lows ++ x ∷ highs
  with_item-between x [] highs l h = with_item-here x highs h
  with_item-between x (y ∷ lows) highs l h =
      ap (λ (b : Bool). if b then y ∷ with_item_by goes_before x (lows ++ highs) else x ∷ y ∷ (lows ++ highs)) l.0
      ∙ ap (λ (zs : List X). y ∷ zs) (with_item-between x lows highs l.1 h)

  pub all-with_item : (P : X → Type 0) (x : X) (xs : List X) → P x → AllByRecursion P xs → AllByRecursion P (with_item_by goes_before x xs)
  all-with_item P x [] p ps = (p, tt)
  all-with_item P x (y ∷ ys) p ps = at_choice (all-with_item P x ys p ps.1) (goes_before y x) where
    at_choice : AllByRecursion P (with_item_by goes_before x ys) → (b : Bool)
        → AllByRecursion P (if b then y ∷ with_item_by goes_before x ys else x ∷ y ∷ ys)
    at_choice rest true = (ps.0, rest)
    at_choice rest false = (p, (ps.0, ps.1))

  module _ (total : (x y : X) → goes_before x y ≡ false → goes_before y x ≡ true)
      (trans : (x y z : X) → goes_before x y ≡ true → goes_before y z ≡ true → goes_before x z ≡ true) where
    -- an ascending list stays ascending when an item is put in
    pub with_item-ascending : (x : X) (xs : List X) → IsAscendingBy goes_before xs → IsAscendingBy goes_before (with_item_by goes_before x xs)
    with_item-ascending x [] a = (tt, tt)
    with_item-ascending x (y ∷ ys) a = at_choice (with_item-ascending x ys a.1) (goes_before y x) refl where
      at_choice : IsAscendingBy goes_before (with_item_by goes_before x ys) → (b : Bool) → goes_before y x ≡ b
          → IsAscendingBy goes_before (if b then y ∷ with_item_by goes_before x ys else x ∷ y ∷ ys)
      at_choice rest true e = (all-with_item (λ z. goes_before y z ≡ true) x ys e a.0, rest)
      at_choice rest false e =
          let before : goes_before x y ≡ true = total y x e in
          ((before, all-weaker (λ z. goes_before y z ≡ true) (λ z. goes_before x z ≡ true) (λ z h. trans x y z before h) ys a.0), a)
