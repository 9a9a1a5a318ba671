-- Where the words of a grid stand in its table: the doors in the order of the places, then the
-- LASTs.
use Rattle.std.specs.Prelude.{◌≡◌, ℕ, ◌+◌, ◌*◌, ◌<◌, List, length, slice_index}

-- the index of DOOR of the place p
abbrev pub door_at : ℕ → ℕ
door_at p = p

-- the index of LAST of the place p, of so many places
abbrev pub last_at : ℕ → ℕ → ℕ
last_at places p = places + p

-- the words of the table are LAST and DOOR of these places
pub record AreWords (places : ℕ) (words : List ℕ) (last door : ℕ → ℕ) : Type 0 where
  pub room : length words ≡ 2 * places
  pub lasts : (p : ℕ) → p < places → slice_index words (last_at places p) ≡ last p
  pub doors : (p : ℕ) → p < places → slice_index words (door_at p) ≡ door p
