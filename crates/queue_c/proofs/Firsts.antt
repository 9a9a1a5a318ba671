-- The first of a mapped list, and the rest.
use Rattle.std.proofs.Common.{◌≡◌, List, [], ◌∷◌, map, refl, sym, ap, ◌∙◌}
use Rattle.std.specs.Prelude.{Option, Some, None}
use Rattle.leftist_heap.specs.Store.{first_of, rest_of}

abbrev mapped : {X Y : Type 0} → (X → Y) → Option X → Option Y
mapped f None = None
mapped f (Some x) = Some (f x)

first_mapped : {X Y : Type 0} (f : X → Y) (xs : List X) → first_of (map f xs) ≡ mapped f (first_of xs)
first_mapped f [] = refl
first_mapped f (x ∷ xs) = refl

pub first_of_map : {X Y : Type 0} (f : X → Y) (xs : List X) (x : X) → Some x ≡ first_of xs → Some (f x) ≡ first_of (map f xs)
first_of_map f xs x e = ap (mapped f) e ∙ sym (first_mapped f xs)

pub none_of_map : {X Y : Type 0} (f : X → Y) (xs : List X) → None ≡ first_of xs → None ≡ first_of (map f xs)
none_of_map f xs e = ap (mapped f) e ∙ sym (first_mapped f xs)

pub rest_of_map : {X Y : Type 0} (f : X → Y) (xs : List X) → map f (rest_of xs) ≡ rest_of (map f xs)
rest_of_map f [] = refl
rest_of_map f (x ∷ xs) = refl
