-- The places of the triangular grid, and the place to which turns lead (Moir and Anderson 1995).
use Rattle.std.specs.Prelude.{◌≡◌, ℕ, ◌+◌, ◌*◌, ◌/◌, ◌<◌, ◌≤◌, List, [], ◌∷◌}
use Rattle.split_core.specs.declared.places.TheConstants.{MAX_COMERS}
use Rattle.split_core.specs.declared.model.Turn.{Turn}
use Rattle.split_core.specs.declared.model.Turn.TheVariants.{Right, Down}

-- a grid has 1 to 64 comers
pub record IsGridSize (n : ℕ) : Type 0 where
  pub some : 0 < n
  pub few : n ≤ MAX_COMERS

-- the number of the place in this row and column: places are counted by diagonals, on each from the
-- top row down
unfoldable pub place : ℕ → ℕ → ℕ
place row column = (row + column) * (row + column + 1) / 2 + row

-- the row to which these turns lead from the top row, which is 0
abbrev pub row : List Turn → ℕ
row [] = 0
row (Right ∷ turns) = row turns
row (Down ∷ turns) = row turns + 1

-- the column to which these turns lead from the first column, which is 0
abbrev pub column : List Turn → ℕ
column [] = 0
column (Right ∷ turns) = column turns + 1
column (Down ∷ turns) = column turns

-- the place to which these turns lead from place 0
abbrev pub at : List Turn → ℕ
at turns = place (row turns) (column turns)

-- the diagonal of that place
abbrev pub diagonal : List Turn → ℕ
diagonal turns = row turns + column turns

-- What place numbers are: the diagonal's places stand in a row, to the right and below stand the
-- next two diagonals' neighbours, no two places have one number, and the diagonals below n have n(n
-- + 1)/2 places, numbered below that.
pub record Numbered (r c : ℕ) : Type 0 where
  pub number : place r c ≡ (r + c) * (r + c + 1) / 2 + r
  pub right : place r (c + 1) ≡ place r c + (r + c) + 1
  pub below : place (r + 1) c ≡ place r c + (r + c) + 2
  pub alone : (i j : ℕ) → place r c ≡ place i j → (r ≡ i) × (c ≡ j)
  pub within : (n : ℕ) → r + c < n → place r c < place 0 n
  pub inside : (n : ℕ) → place r c < place 0 n → r + c < n
