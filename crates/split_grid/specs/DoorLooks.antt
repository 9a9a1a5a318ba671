-- Runs of the grid in which comers also look at doors, as a trail scan does, and what they read.
use Rattle.std.specs.Prelude.{◌≡◌, ℕ, ◌==◌, if◌then◌else◌, List, [], ◌∷◌, ◌++◌, length, Contains}
use Rattle.split_core.specs.Places.{place}
use Rattle.split_core.specs.Grid.{Grid, Event, Has, happens, run, opening, Different}
use Rattle.split_core.specs.Trail.{Spot, Trail, trail_start}
use Rattle.split_core.specs.TrailReads.{reads_word, trail_by}
use Rattle.split_core.specs.declared.model.Comer.{Comer}
use Rattle.split_core.specs.declared.model.Next.TheVariants.{Stopped}
use Rattle.split_grid.specs.declared.rule.Look.{Look}

-- What happens: an event of the grid; or the comer at a position reads the door of a place, which
-- changes nothing.
pub data Moment : Type 0 where
  Happens : (event : Event) → Moment
  LooksAt : (who place : ℕ) → Moment

-- the events among these moments, in their order
abbrev pub events_in : List Moment → List Event
events_in [] = []
events_in (Happens e ∷ moments) = e ∷ events_in moments
events_in (LooksAt who p ∷ moments) = events_in moments

abbrev pub look : ℕ → ℕ → Look
look p word = record { place = p; word = word }

-- what the comer at `who` has read in these moments, from this grid on: of each of its looks the
-- place, and the word that its door was at that moment
abbrev pub looks_of : ℕ → List Moment → Grid → List Look
looks_of who [] s = []
looks_of who (Happens e ∷ moments) s = looks_of who moments (happens s e)
looks_of who (LooksAt a p ∷ moments) s = if a == who then look p (s.door p) ∷ looks_of who moments s else looks_of who moments s

-- in these moments, from this grid on, only a comer that has stopped looks at a door
abbrev pub OnlyStoppedLook : List Moment → Grid → Type 0
OnlyStoppedLook [] s = Unit {0}
OnlyStoppedLook (Happens e ∷ moments) s = OnlyStoppedLook moments (happens s e)
OnlyStoppedLook (LooksAt who p ∷ moments) s = ((c : Comer) × Has s who c × (c.next ≡ Stopped)) × OnlyStoppedLook moments s

-- There is one run of the grid of so many comers, with looks of those that have stopped, at whose end this comer stands
-- in it, and in which it has read these doors and no others: each word was that of its door at the
-- moment of the look, and the looks were made in this order.
pub record HasLooked (comers : ℕ) (c : Comer) (looks : List Look) : Type 0 where
  pub ids : List ℕ
  pub differ : Different ids
  pub counted : length ids ≡ comers
  pub moments : List Moment
  pub who : ℕ
  pub stands : Has (run (events_in moments) (opening ids)) who c
  pub looked : looks_of who moments (opening ids) ≡ looks
  pub stopped : OnlyStoppedLook moments (opening ids)

-- the look at the first of these places that reads this word; none where no place is left
abbrev pub look_next : List Spot → ℕ → List Look
look_next [] word = []
look_next (p ∷ places) word = look (place p.row p.column) word ∷ []

-- the looks of the trail scan z, of a grid of n comers, that reads these words
abbrev pub looks_by : ℕ → Trail → List ℕ → List Look
looks_by n z [] = []
looks_by n z (word ∷ words) = look_next z.ahead word ++ looks_by n (reads_word n z word) words

-- In every run with looks: a trail scan that is over, of the comer at `who`, whose looks are those behind
-- its earlier ones, has found each place whose door was closed at the moment of its first look.
abbrev pub LooksFind : List ℕ → Type 0
LooksFind ids =
    (moments : List Moment) (who : ℕ) (earlier : List Look) (words : List ℕ)
    → looks_of who moments (opening ids) ≡ earlier ++ looks_by (length ids) trail_start words
    → (trail_by (length ids) words).ahead ≡ []
    → (before after : List Moment) × (moments ≡ before ++ LooksAt who 0 ∷ after) × (looks_of who before (opening ids) ≡ earlier)
    × ((p : ℕ) → (run (events_in before) (opening ids)).door p ≡ 1 → Contains (trail_by (length ids) words).found p)
