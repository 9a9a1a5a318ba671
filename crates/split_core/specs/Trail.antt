-- The trail scan: it reads only the doors of places to which closed doors have led it.
use Rattle.std.specs.Prelude.{ℕ, ◌+◌, Bool, false, not, ◌&&◌, ◌||◌, ◌==◌, nat_lt, if◌then◌else◌, List, [], ◌∷◌, ◌++◌}
use Rattle.split_core.specs.Places.{place}
use Rattle.split_core.specs.Scan.{with_found}

-- a place by its row and column
pub record Spot : Type 0 where
  pub row : ℕ
  pub column : ℕ

abbrev pub spot : ℕ → ℕ → Spot
spot row column = record { row = row; column = column }

-- A trail scan: the places whose doors are still to be read, the next first, the places found
-- closed in the order in which they were read, and the number of doors read. It is over when no
-- place is left to be read.
pub record Trail : Type 0 where
  pub ahead : List Spot
  pub found : List ℕ
  pub doors : ℕ

-- no door has been read: the next is that of place 0
abbrev pub trail_start : Trail
trail_start = record { ahead = spot 0 0 ∷ []; found = []; doors = 0 }

-- the place in this row and column is one of these
abbrev pub lists : ℕ → ℕ → List Spot → Bool
lists row column [] = false
lists row column (p ∷ places) = ((p.row == row) && (p.column == column)) || lists row column places

-- the place in this row and column joins these as the last, unless it is one of them or lies
-- outside a grid of so many comers
abbrev pub joined : ℕ → ℕ → ℕ → List Spot → List Spot
joined comers row column places =
    if nat_lt (row + column) comers && not (lists row column places) then places ++ spot row column ∷ [] else places

-- the places to be read after the place p, whose door was read as this word, and the rest: a closed
-- door leads to the place right of it and to the one below
abbrev pub led_to : ℕ → Spot → ℕ → List Spot → List Spot
led_to comers p word rest =
    if word == 1 then joined comers (p.row + 1) p.column (joined comers p.row (p.column + 1) rest) else rest

-- the trail of a grid of so many comers after the first of these places was read, where `door` has
-- the words of the doors; one that is over stays as it is
abbrev pub follows : ℕ → (ℕ → ℕ) → List Spot → Trail → Trail
follows comers door [] z = z
follows comers door (p ∷ rest) z =
    record {
      ahead = led_to comers p (door (place p.row p.column)) rest;
      found = with_found (door (place p.row p.column)) (place p.row p.column) z.found;
      doors = z.doors + 1;
    }
