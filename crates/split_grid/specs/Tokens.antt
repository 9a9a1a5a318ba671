-- What a contract sees of a newcomer, of one that has stopped, and of a grid; and what their fields
-- keep.
use Rattle.std.specs.Prelude.{◌≡◌, ℕ, ◌+◌, ◌*◌, ◌<◌, ◌≤◌, ◌==◌, true, false, if◌then◌else◌, List, []}
use Rattle.atomic_table.specs.Table.{Me}
use Rattle.atomic_table.specs.Seated.{TableId}
use Rattle.split_core.specs.Places.{IsGridSize, place, diagonal}
use Rattle.split_core.specs.Scan.{fresh}
use Rattle.split_core.specs.Comer.{is_stopped}
use Rattle.split_core.specs.Collect.{EndedScan}
use Rattle.split_core.specs.Splitter.{steps_here}
use Rattle.split_core.specs.Stored.{walker_of, cursor_of}
use Rattle.split_core.specs.declared.places.TheConstants.{MAX_COMERS}
use Rattle.split_core.specs.declared.model.Comer.{Comer}
use Rattle.split_core.specs.declared.model.Scan.{Scan}
use Rattle.split_core.specs.declared.model.Next.TheVariants.{Stopped}
use Rattle.split_core.specs.declared.walker.Walker.{Walker}
use Rattle.split_grid.specs.declared.rule.View.{View}
use Rattle.split_grid.specs.declared.rule.Look.{Look}
use Rattle.split_grid.specs.Rule.{is_dealt, comer_in}

-- a grid: its table, the tag of its values, and the number of its comers
pub record Running (G : Type 0) : Type 0 where
  pub table : TableId
  pub tag : G
  pub comers : ℕ

-- a comer on its way, with the table, tag and number of comers of its grid
pub record Walking (G : Type 0) : Type 0 where
  pub table : TableId
  pub tag : G
  pub comers : ℕ
  pub comer : Comer

-- a comer that has stopped, the scan to which its next door belongs, and each door that it has read
-- for a trail scan
pub record Resting (G : Type 0) : Type 0 where
  pub table : TableId
  pub tag : G
  pub comers : ℕ
  pub comer : Comer
  pub scan : Scan
  pub looks : List Look

-- the scan to which the next door belongs: a fresh one where its token has counted no door, else
-- the comer's
abbrev pub scan_at : ℕ → Comer → Scan
scan_at doors c = if doors == 0 then fresh else c.scan

-- the table is that of a grid of n comers, 1 to 64
pub record Sized (table : TableId) (n : ℕ) : Type 0 where
  pub size : IsGridSize n
  pub words : table.words ≡ 2 * place 0 n
  pub slots : table.slots ≡ place 0 n

-- what a grid keeps of its table, of the ids in its key, and of the numbers of its comers and
-- places
pub record IsGrid (table : TableId) (ids comers places : ℕ) : Type 0 where
  pub sized : Sized table ids
  pub counted : comers ≡ ids
  pub room : places ≡ place 0 ids

module _ {S G : Type 0} where
  -- the seat is that of a comer on its way, which has begun no scan, seen nothing and looked at no
  -- door
  pub record Walks (slots : ℕ) (m : Me S (View G)) (w : Walker) : Type 0 where
    pub dealt : is_dealt m.0.role ≡ true
    pub stored : w ≡ walker_of (comer_in m.0)
    pub going : is_stopped w.next ≡ false
    pub few : m.0.comers ≤ MAX_COMERS
    pub sized : slots ≡ place 0 m.0.comers
    pub inside : diagonal (comer_in m.0).turns < m.0.comers
    pub unscanned : (comer_in m.0).scan ≡ fresh
    pub unseen : (comer_in m.0).seen ≡ []
    pub unlooked : m.0.looks ≡ []
    pub bounded : (comer_in m.0).steps ≤ 4 * diagonal (comer_in m.0).turns + steps_here w.next

  -- the seat is that of a comer that has stopped; its next door, where its scan is not over, is one
  -- of the grid's
  pub record Rests (slots : ℕ) (m : Me S (View G)) (w : Walker) : Type 0 where
    pub dealt : is_dealt m.0.role ≡ true
    pub stored : w ≡ record (walker_of (comer_in m.0)) { cursor = cursor_of (scan_at w.cursor.doors (comer_in m.0)) }
    pub stopped : w.next ≡ Stopped
    pub few : m.0.comers ≤ MAX_COMERS
    pub sized : slots ≡ place 0 m.0.comers
    pub inside : diagonal (comer_in m.0).turns < m.0.comers
    pub counted : w.cursor.doors ≡ place w.cursor.row w.cursor.column
    pub room : w.cursor.doors ≤ place 0 m.0.comers
    pub next : w.cursor.over ≡ false → place w.cursor.row w.cursor.column < place 0 m.0.comers
    pub ended : w.cursor.over ≡ true → EndedScan (comer_in m.0)
