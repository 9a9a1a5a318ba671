-- A scan of the doors (the collect): its beginning, and what it is after each door.
use Rattle.std.specs.Prelude.{ℕ, ◌+◌, ◌-◌, Bool, false, not, ◌&&◌, ◌||◌, ◌==◌, nat_le, if◌then◌else◌, List, [], ◌∷◌, ◌++◌}
use Rattle.split_core.specs.Places.{place}
use Rattle.split_core.specs.declared.model.Scan.{Scan}

-- no door has been read: the next is that of place 0
abbrev pub fresh : Scan
fresh = record { row = 0; column = 0; found = []; doors = 0; over = false }

-- one of the places stands on this diagonal or behind it
abbrev pub reaches : ℕ → List ℕ → Bool
reaches diagonal [] = false
reaches diagonal (p ∷ places) = nat_le (place 0 diagonal) p || reaches diagonal places

-- the places found, after the door of this one was read: it joins them where the door is closed
abbrev pub with_found : ℕ → ℕ → List ℕ → List ℕ
with_found word p places = if word == 1 then places ++ p ∷ [] else places

-- The scan of a grid of so many comers, after the next of its doors was read as this word. Doors
-- are read in the order of the places. The scan is over after the last place of a diagonal on which
-- it found no closed door, or of the last diagonal.
abbrev pub scanned : ℕ → Scan → ℕ → Scan
scanned comers z word =
    record {
      row = if z.column == 0 then 0 else z.row + 1;
      column = if z.column == 0 then z.row + 1 else z.column - 1;
      found = with_found word (place z.row z.column) z.found;
      doors = z.doors + 1;
      over = (z.column == 0) && (not (reaches z.row (with_found word (place z.row z.column) z.found)) || ((z.row + 1) == comers));
    }

-- no scan is under way: none was begun, or the last is over
abbrev pub is_idle : Scan → Bool
is_idle z = (z.doors == 0) || z.over
