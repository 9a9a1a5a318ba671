-- Items put into a list in an exact order: the order in which they are put in makes no difference.
use Rattle.std.proofs.Common.{◌≡◌, ◌+◌, Bool, true, false, List, [], ◌∷◌, ◌++◌, length, if◌then◌else◌, refl, sym, ◌∙◌, ap, arith}
use Rattle.std.specs.List.{AllByRecursion}
use Rattle.leftist_heap.specs.Order.{IsAscendingBy, with_item_by}
use Rattle.leftist_heap.specs.Order.{with_items_by}
use Rattle.leftist_heap.proofs.Ascending.{all-with_item, with_item-ascending}
use Rattle.leftist_heap.proofs.Orders.{IsExactOrder, by_bool}

module _ {X : Type 0} (goes_before : X → X → Bool) where
  put : X → List X → List X
  put x xs = with_item_by goes_before x xs

  pub put-behind : (x y : X) (ys : List X) → goes_before y x ≡ true → with_item_by goes_before x (y ∷ ys) ≡ y ∷ with_item_by goes_before x ys
  put-behind x y ys e = ap (λ (b : Bool). if b then y ∷ with_item_by goes_before x ys else x ∷ y ∷ ys) e

  pub put-front : (x y : X) (ys : List X) → goes_before y x ≡ false → with_item_by goes_before x (y ∷ ys) ≡ x ∷ y ∷ ys
  put-front x y ys e = ap (λ (b : Bool). if b then y ∷ with_item_by goes_before x ys else x ∷ y ∷ ys) e

  pub with_items-append : (xs ys zs : List X)
      → with_items_by goes_before (xs ++ ys) zs ≡ with_items_by goes_before xs (with_items_by goes_before ys zs)
  with_items-append [] ys zs = refl
  with_items-append (x ∷ xs) ys zs = ap (with_item_by goes_before x) (with_items-append xs ys zs)

  length-put : (x : X) (ys : List X) → length (with_item_by goes_before x ys) ≡ length ys + 1
  length-put x [] = refl
  length-put x (y ∷ ys) = at_choice (length-put x ys) (goes_before y x) where
    at_choice : length (with_item_by goes_before x ys) ≡ length ys + 1 → (b : Bool)
        → length (if b then y ∷ with_item_by goes_before x ys else x ∷ y ∷ ys) ≡ length (y ∷ ys) + 1
    at_choice h true = omega arith
    at_choice h false = omega arith

  pub length-with_items : (xs ys : List X) → length (with_items_by goes_before xs ys) ≡ length xs + length ys
  length-with_items [] ys = omega arith
  length-with_items (x ∷ xs) ys = omega (arith, length-put x (with_items_by goes_before xs ys), length-with_items xs ys)

  pub all-with_items : (P : X → Type 0) (xs ys : List X) → AllByRecursion P xs → AllByRecursion P ys
      → AllByRecursion P (with_items_by goes_before xs ys)
  all-with_items P [] ys p q = q
  all-with_items P (x ∷ xs) ys p q = all-with_item goes_before P x (with_items_by goes_before xs ys) p.0 (all-with_items P xs ys p.1 q)

  module _ (o : IsExactOrder goes_before) where
    pub with_items-ascending : (xs ys : List X) → IsAscendingBy goes_before ys → IsAscendingBy goes_before (with_items_by goes_before xs ys)
    with_items-ascending [] ys a = a
    with_items-ascending (x ∷ xs) ys a =
        with_item-ascending goes_before o.total o.trans x (with_items_by goes_before xs ys) (with_items-ascending xs ys a)

    -- an item that may stand before all others becomes the first: it may stand behind an equal one,
    -- which is the same
    pub put-first : (x : X) (ys : List X) → AllByRecursion (λ y. goes_before x y ≡ true) ys → with_item_by goes_before x ys ≡ x ∷ ys
    put-first x [] p = refl
    put-first x (y ∷ ys) p = by_bool (goes_before y x)
        (λ e.
        let alike : x ≡ y = o.same x y p.0 e in
        let rest : with_item_by goes_before x ys ≡ x ∷ ys = put-first x ys p.1 in
        let first : with_item_by goes_before x (y ∷ ys) ≡ y ∷ with_item_by goes_before x ys = put-behind x y ys e in
        first ∙ ap (λ (zs : List X). y ∷ zs) rest ∙ ap (λ (z : X). z ∷ x ∷ ys) (sym alike) ∙ ap (λ (z : X). x ∷ z ∷ ys) alike)
        (λ e. put-front x y ys e)

    -- two items in front of a list, in either order
    two : (x y : X) (zs : List X) → (if goes_before y x then y ∷ x ∷ zs else x ∷ y ∷ zs) ≡ (if goes_before x y then x ∷ y ∷ zs else y ∷ x ∷ zs)
    two x y zs = at_choices (goes_before y x) (goes_before x y) refl refl where
      at_choices : (p q : Bool) → goes_before y x ≡ p → goes_before x y ≡ q
          → (if p then y ∷ x ∷ zs else x ∷ y ∷ zs) ≡ (if q then x ∷ y ∷ zs else y ∷ x ∷ zs)
      at_choices true true e f = ap (λ (z : X). z ∷ x ∷ zs) (o.same y x e f) ∙ ap (λ (z : X). x ∷ z ∷ zs) (sym (o.same y x e f))
      at_choices true false e f = refl
      at_choices false true e f = refl
      at_choices false false e f = let g : goes_before x y ≡ true = o.total y x e in cc

    -- of z in front, x may stand behind it and y may not
    apart : (x y z : X) (zs : List X) → goes_before z x ≡ true → goes_before z y ≡ false
        → with_item_by goes_before x (with_item_by goes_before y (z ∷ zs)) ≡ with_item_by goes_before y (with_item_by goes_before x (z ∷ zs))
    apart x y z zs e f =
        let first : goes_before y x ≡ true = o.trans y z x (o.total z y f) e in
        ap (with_item_by goes_before x) (put-front y z zs f) ∙ put-behind x y (z ∷ zs) first ∙ ap (λ (ws : List X). y ∷ ws) (put-behind x z zs e)
        ∙ sym (ap (with_item_by goes_before y) (put-behind x z zs e) ∙ put-front y z (with_item_by goes_before x zs) f)

    pub put-comm : (x y : X) (zs : List X)
        → with_item_by goes_before x (with_item_by goes_before y zs) ≡ with_item_by goes_before y (with_item_by goes_before x zs)
    put-comm x y [] = two x y []
    put-comm x y (z ∷ zs) = cases (put-comm x y zs) where
      cases : with_item_by goes_before x (with_item_by goes_before y zs) ≡ with_item_by goes_before y (with_item_by goes_before x zs)
          → with_item_by goes_before x (with_item_by goes_before y (z ∷ zs)) ≡ with_item_by goes_before y (with_item_by goes_before x (z ∷ zs))
      cases h = by_bool (goes_before z x)
          (λ e. by_bool (goes_before z y)
          (λ f.
          ap (with_item_by goes_before x) (put-behind y z zs f) ∙ put-behind x z (with_item_by goes_before y zs) e ∙ ap (λ (ws : List X). z ∷ ws) h
          ∙ sym (ap (with_item_by goes_before y) (put-behind x z zs e) ∙ put-behind y z (with_item_by goes_before x zs) f))
          (λ f. apart x y z zs e f))
          (λ e. by_bool (goes_before z y)
          (λ f. sym (apart y x z zs f e))
          (λ f.
          ap (with_item_by goes_before x) (put-front y z zs f)
          ∙ ap (λ (ws : List X). if goes_before y x then y ∷ ws else x ∷ y ∷ z ∷ zs) (put-front x z zs e)
          ∙ two x y (z ∷ zs)
          ∙ sym (ap (with_item_by goes_before y) (put-front x z zs e)
          ∙ ap (λ (ws : List X). if goes_before x y then x ∷ ws else y ∷ x ∷ z ∷ zs) (put-front y z zs f))))

    with_items-put : (ys : List X) (x : X) (zs : List X)
        → with_items_by goes_before ys (with_item_by goes_before x zs) ≡ with_item_by goes_before x (with_items_by goes_before ys zs)
    with_items-put [] x zs = refl
    with_items-put (y ∷ ys) x zs = ap (with_item_by goes_before y) (with_items-put ys x zs) ∙ put-comm y x (with_items_by goes_before ys zs)

    -- which list is put in first makes no difference
    pub with_items-comm : (xs ys zs : List X)
        → with_items_by goes_before xs (with_items_by goes_before ys zs) ≡ with_items_by goes_before ys (with_items_by goes_before xs zs)
    with_items-comm [] ys zs = refl
    with_items-comm (x ∷ xs) ys zs =
        ap (with_item_by goes_before x) (with_items-comm xs ys zs) ∙ sym (with_items-put ys x (with_items_by goes_before xs zs))

    with_items-of_put : (x : X) (ys zs : List X)
        → with_items_by goes_before (with_item_by goes_before x ys) zs ≡ with_item_by goes_before x (with_items_by goes_before ys zs)
    with_items-of_put x [] zs = refl
    with_items-of_put x (y ∷ ys) zs = cases (with_items-of_put x ys zs) where
      cases : with_items_by goes_before (with_item_by goes_before x ys) zs ≡ with_item_by goes_before x (with_items_by goes_before ys zs)
          → with_items_by goes_before (with_item_by goes_before x (y ∷ ys)) zs ≡ with_item_by goes_before x (with_items_by goes_before (y ∷ ys) zs)
      cases h = by_bool (goes_before y x)
          (λ e. ap (λ (ws : List X). with_items_by goes_before ws zs) (put-behind x y ys e) ∙ ap (with_item_by goes_before y) h
          ∙ put-comm y x (with_items_by goes_before ys zs))
          (λ e. ap (λ (ws : List X). with_items_by goes_before ws zs) (put-front x y ys e))

    -- putting in a list in order is putting in the list
    pub with_items-sorted : (xs zs : List X) → with_items_by goes_before (with_items_by goes_before xs []) zs ≡ with_items_by goes_before xs zs
    with_items-sorted [] zs = refl
    with_items-sorted (x ∷ xs) zs =
        with_items-of_put x (with_items_by goes_before xs []) zs ∙ ap (with_item_by goes_before x) (with_items-sorted xs zs)
