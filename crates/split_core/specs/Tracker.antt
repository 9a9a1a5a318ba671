-- What running code keeps of a trail scan.
use Rattle.std.specs.Prelude.{◌≡◌, ℕ, ◌+◌, ◌<◌, ◌≤◌, Bool, ◌==◌, List, [], ◌∷◌, length, slice_get, Some}
use Rattle.std.specs.Int.{bit_at}
use Rattle.split_core.specs.Places.{place}
use Rattle.split_core.specs.Trail.{Spot, Trail, spot, follows}
use Rattle.split_core.specs.TrailRows.{AreRows, Are}
use Rattle.split_core.specs.TrailReads.{trail_by}
use Rattle.split_core.specs.TrailCalls.{ahead_seen, trail_now}
use Rattle.split_core.specs.declared.places.TheConstants.{MAX_COMERS}
use Rattle.split_core.specs.declared.seen.Seen.{Seen}
use Rattle.split_core.specs.declared.tracker.Tracker.{Tracker}

-- bit r of the mask stands for row r
abbrev pub has_row : ℕ → ℕ → Bool
has_row mask r = bit_at mask r == 1

-- The masks are those of a diagonal of a grid of n comers, 1 to 64, with no row below its last, and
-- `first` is the number of its first place; each door read is of a place before those that are still
-- to be read.
pub record IsTracker (n : ℕ) (t : Tracker) : Type 0 where
  pub few : n ≤ MAX_COMERS
  pub inside : t.diagonal < n
  pub first : t.first ≡ place 0 t.diagonal
  pub unread : (r : ℕ) → bit_at t.unread r ≡ 1 → r ≤ t.diagonal
  pub shut : (r : ℕ) → bit_at t.shut r ≡ 1 → r ≤ t.diagonal
  pub counted : (r : ℕ) → bit_at t.unread r ≡ 1 → t.doors ≤ place 0 t.diagonal + r
  pub room : t.doors ≤ place 0 n

-- it stores the trail z of a grid of n comers, which is over where no row is unread
pub record Stores (n : ℕ) (t : Tracker) (z : Trail) : Type 0 where
  pub rows : AreRows n t.diagonal (Are (has_row t.unread)) (Are (has_row t.shut)) z.ahead
  pub doors : t.doors ≡ z.doors
  pub over : t.unread ≡ 0 → z.ahead ≡ []

-- before the first trail scan
abbrev pub no_tracker : Tracker
no_tracker = record { diagonal = 0; first = 0; unread = 0; shut = 0; doors = 0 }

-- The next door of the trail scan z of a grid of n comers was read, where `door` has the words of the
-- doors: what is stored then, and what is told.
pub record ReadsNext (n : ℕ) (door : ℕ → ℕ) (z : Trail) (t : Tracker) (told : Seen) : Type 0 where
  pub stores : Stores n t (follows n door z.ahead z)
  pub shown : ahead_seen n door z.ahead ≡ Some told

-- the place in this row of that diagonal comes next
pub record IsNextRow (diagonal row : ℕ) (places : List Spot) : Type 0 where
  pub column : ℕ
  pub on : row + column ≡ diagonal
  pub rest : List Spot
  pub next : places ≡ spot row column ∷ rest

-- what is stored is the trail scan z; the one to which its next door belongs is that of the words read
-- so far
pub record Tracks (n : ℕ) (t : Tracker) (z : Trail) : Type 0 where
  pub stores : Stores n t z
  pub words : List ℕ
  pub is : trail_now z ≡ trail_by n words

-- each of n comers has a tracker, fit for a grid of so many
pub record AreTrackers (n : ℕ) (trackers : List Tracker) : Type 0 where
  pub counted : length trackers ≡ n
  pub lawful : (who : ℕ) (t : Tracker) → slice_get trackers who ≡ Some t → IsTracker n t
