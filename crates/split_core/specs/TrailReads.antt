-- A trail scan by the words that it reads alone: what holds of it at every moment, whatever these
-- words are.
use Rattle.std.specs.Prelude.{◌≡◌, ℕ, ◌+◌, ◌*◌, ◌<◌, ◌≤◌, true, ◌⊎◌, List, [], ◌∷◌, length, Contains}
use Rattle.split_core.specs.Places.{at, place, diagonal}
use Rattle.split_core.specs.Grid.{Grid, Event, happens, run, opening}
use Rattle.split_core.specs.Splitter.{Left}
use Rattle.split_core.specs.Trail.{Spot, Trail, trail_start, lists, follows}
use Rattle.split_core.specs.TrailRows.{RowsFollow}
use Rattle.split_core.specs.Trails.{InOrder}
use Rattle.split_core.specs.declared.model.Turn.{Turn}

-- the trail z of a grid of n comers after its next door was read as this word
abbrev pub reads_word : ℕ → Trail → ℕ → Trail
reads_word n z word = follows n (λ _. word) z.ahead z

-- the trail z after its next doors were read as these words, the first of the list first
abbrev pub reads_words : ℕ → Trail → List ℕ → Trail
reads_words n z [] = z
reads_words n z (word ∷ words) = reads_words n (reads_word n z word) words

-- a new trail scan after these words
abbrev pub trail_by : ℕ → List ℕ → Trail
trail_by n words = reads_words n trail_start words

-- the place is on the way of these turns
abbrev pub OnWay : List Turn → ℕ → Type 0
OnWay turns p = Left p turns ⊎ (at turns ≡ p)

-- the door of the first of these places, where that is on the way, was read as closed
abbrev pub HeedsNext : List Turn → List Spot → ℕ → Type 0
HeedsNext turns [] word = Unit {0}
HeedsNext turns (p ∷ places) word = OnWay turns (place p.row p.column) → word ≡ 1

-- each door on the way that these words were read of was closed
abbrev pub Heeds : ℕ → List Turn → Trail → List ℕ → Type 0
Heeds n turns z [] = Unit {0}
Heeds n turns z (word ∷ words) = HeedsNext turns z.ahead word × Heeds n turns (reads_word n z word) words

-- Of the trail z of a grid of n comers, at every moment: its doors are read in the order of the
-- places, none twice, and all are of places of the grid; it has read at most 1 + 2m doors where it
-- has found m; and it goes on as its stored form does.
pub record TrailMoment (n : ℕ) (z : Trail) : Type 0 where
  pub order : InOrder z
  pub few : z.doors + length z.ahead ≤ 1 + 2 * length z.found
  pub inside : (r c : ℕ) → lists r c z.ahead ≡ true → r + c < n
  pub counted : (p : Spot) (rest : List Spot) → z.ahead ≡ p ∷ rest → z.doors ≤ place p.row p.column
  pub rows : RowsFollow n z

-- Where each door on a way was closed, a trail scan that is over has found the places of the way.
abbrev pub WaysFound : ℕ → Type 0
WaysFound n =
    (turns : List Turn) (words : List ℕ) (p : ℕ) → diagonal turns < n → Heeds n turns trail_start words
    → (trail_by n words).ahead ≡ []
    → OnWay turns p → Contains (trail_by n words).found p

-- What happens while one trail scan is made: an event of the grid, or a read of its next door.
pub data Moment : Type 0 where
  Happens : (event : Event) → Moment
  Reads : Moment

-- the trail z, beside a run of the grid from this state, after these moments
abbrev pub trail_beside : List Moment → Grid → Trail → Trail
trail_beside [] s z = z
trail_beside (Happens e ∷ moments) s z = trail_beside moments (happens s e) z
trail_beside (Reads ∷ moments) s z = trail_beside moments s (follows (length s.comers) s.door z.ahead z)

-- a trail scan that is over has found each place whose door was closed before its first read,
-- whatever happens meanwhile
abbrev pub FindsClosed : List ℕ → Type 0
FindsClosed ids =
    (before : List Event) (moments : List Moment) (p : ℕ) → (run before (opening ids)).door p ≡ 1
    → (trail_beside moments (run before (opening ids)) trail_start).ahead ≡ []
    → Contains (trail_beside moments (run before (opening ids)) trail_start).found p
