-- How many comers visit which part of the grid: the quadrant (r, c) is made of the places in row r
-- or a later one and in column c or a later one.
use Rattle.std.specs.Prelude.{◌≡◌, ℕ, ◌+◌, ◌-◌, ◌≤◌, ◌<◌, Bool, true, ◌&&◌, nat_le, count_by}
use Rattle.split_core.specs.Places.{place, row, column, diagonal}
use Rattle.split_core.specs.Comer.{has_started}
use Rattle.split_core.specs.Grid.{Grid, Has, started}
use Rattle.split_core.specs.Splitter.{Visits}
use Rattle.split_core.specs.declared.model.Comer.{Comer}

-- A visitor of the quadrant, told by where it stands: rows and columns only grow along a way.
abbrev pub is_in : ℕ → ℕ → Comer → Bool
is_in r c x = has_started x && (nat_le r (row x.turns) && nat_le c (column x.turns))

-- the same, told by its turns: it visits one of the quadrant's places
abbrev pub VisitsQuadrant : ℕ → ℕ → Comer → Type 0
VisitsQuadrant r c x = (i j : ℕ) × (r ≤ i) × (c ≤ j) × Visits (place i j) x

-- how many comers visit the quadrant
abbrev pub visitors : ℕ → ℕ → Grid → ℕ
visitors r c s = count_by (is_in r c) s.comers

-- of k that have started none visits the quadrant (r, c), or at most k - r - c do
abbrev pub Quadrants : Grid → Type 0
Quadrants s = (r c : ℕ) → visitors r c s ≤ started s - (r + c)

-- each comer that has started is on a diagonal below their number
abbrev pub Diagonals : Grid → Type 0
Diagonals s = (a : ℕ) (x : Comer) → Has s a x → has_started x ≡ true → diagonal x.turns < started s
