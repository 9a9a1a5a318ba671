-- A row of a text: a name and its number.
use Rattle.std.specs.Prelude.{ℕ, List, ◌++◌, codes, decimal}

-- the name, a space, the number and a line feed
abbrev pub row : List ℕ → ℕ → List ℕ
row name number = name ++ codes " " ++ decimal number ++ codes "\n"
