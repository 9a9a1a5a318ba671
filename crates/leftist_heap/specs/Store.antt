-- What a store answers of the ascending list that it holds.
use Rattle.std.specs.Prelude.{List, [], ◌∷◌, Option, Some, None}

-- the first item, where there is one
abbrev pub first_of : {X : Type 0} → List X → Option X
first_of [] = None
first_of (x ∷ xs) = Some x

-- the list without its first item
abbrev pub rest_of : {X : Type 0} → List X → List X
rest_of [] = []
rest_of (x ∷ xs) = xs
