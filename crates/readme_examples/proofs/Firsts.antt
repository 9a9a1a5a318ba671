-- A list whose first element is known.
use Rattle.std.proofs.Common.{◌≡◌, ap, sym, subst, List, [], ◌∷◌, Option, Some, None}
use Rattle.leftist_heap.specs.Store.{first_of, rest_of}

abbrev IsThere : {X : Type 0} → Option X → Type 0
IsThere None = ⊥
IsThere (Some x) = Unit {0}

abbrev found_or : {X : Type 0} → X → Option X → X
found_or x None = x
found_or x (Some y) = y

-- it is that element and the rest
pub first_is : {X : Type 0} (x : X) (xs : List X) → first_of xs ≡ Some x → xs ≡ x ∷ rest_of xs
first_is x [] e = absurd (subst IsThere (sym e) tt)
first_is x (y ∷ ys) e = ap (λ z. z ∷ ys) (ap (found_or y) e)
