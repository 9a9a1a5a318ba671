-- What each atomic step makes of its comer, and what it tells.
use Rattle.std.specs.Prelude.{◌≡◌, ◌≢◌, ℕ, ◌+◌, ◌*◌, ◌<◌, ◌≤◌, ◌==◌, true, false, ◌∷◌, Option, Some}
use Rattle.atomic_table.specs.Table.{Me}
use Rattle.split_core.specs.Places.{place, at, diagonal}
use Rattle.split_core.specs.Scan.{fresh, scanned}
use Rattle.split_core.specs.Comer.{wrote, saw_door, closed, saw_last, scans}
use Rattle.split_core.specs.Splitter.{steps_here}
use Rattle.split_core.specs.Collect.{EndedScan}
use Rattle.split_core.specs.Stored.{cursor_of, cursor_after}
use Rattle.split_core.specs.declared.model.Comer.{Comer}
use Rattle.split_core.specs.declared.model.Scan.{Scan}
use Rattle.split_core.specs.declared.model.Next.{Next}
use Rattle.split_core.specs.declared.model.Next.TheVariants.{WriteLast, ReadDoor, CloseDoor, ReadLast, Stopped}
use Rattle.split_grid.specs.declared.rule.View.{View}
use Rattle.split_grid.specs.DoorLooks.{HasLooked}
use Rattle.split_grid.specs.Rule.{becomes, comer_in}

-- the comer after this one of its steps, by the word that was read; a write reads none
abbrev pub stepped : Next → Comer → ℕ → Comer
stepped WriteLast c word = wrote c
stepped ReadDoor c word = saw_door c word
stepped CloseDoor c word = closed c
stepped ReadLast c word = saw_last c word
stepped Stopped c word = c

-- the comer after its next step on its way
abbrev pub strode : Comer → ℕ → Comer
strode c word = stepped c.next c word

module _ {T G : Type 0} (fits : G → ℕ → T → Type 0) where
  abbrev pub Seated : Type 0
  Seated = Me (Option T) (View G)

  -- The seat before is now that of the comer c. It has taken the slot of its place, with a value
  -- that fits, exactly where c has stopped.
  pub record IsSeatOf (before : Seated) (c : Comer) (after : Seated) : Type 0 where
    pub view : after.0 ≡ becomes before.0 c
    pub going : c.next ≢ Stopped → after.1 ≡ before.1
    pub stopped : c.next ≡ Stopped → (x : T) × (after.1 ≡ (at c.turns, Some x) ∷ before.1) × fits before.0.tag (at c.turns) x
    pub inside : diagonal c.turns < before.0.comers
    pub bounded : c.scan.doors ≡ 0 → c.steps ≤ 4 * diagonal c.turns + steps_here c.next

  -- the comer of the seat took its next step on its way, and read this word
  abbrev pub Strode : Seated → ℕ → Seated → Type 0
  Strode before word after = IsSeatOf before (strode (comer_in before.0) word) after

module _ {S G : Type 0} where
  -- The comer of the seat, which has stopped, read the next door of the scan z as this word, and
  -- stands so at the end of a run of the grid. A scan that is over then has each place on its comer's
  -- way, and each that any scan of this comer has found.
  pub record ReadsDoor (z : Scan) (before : Me S (View G)) (word : ℕ) (after : Me S (View G)) : Type 0 where
    pub view : after.0 ≡ becomes before.0 (scans before.0.comers z (comer_in before.0) word)
    pub slots : after.1 ≡ before.1
    pub run : HasLooked after.0.comers (comer_in after.0) after.0.looks
    pub inside : (scanned before.0.comers z word).over ≡ false
        → place (scanned before.0.comers z word).row (scanned before.0.comers z word).column < place 0 before.0.comers
    pub counted : z.doors + 1 ≡ place (scanned before.0.comers z word).row (scanned before.0.comers z word).column
    pub stored : cursor_after before.0.comers (cursor_of z) (word == 1) ≡ cursor_of (scanned before.0.comers z word)
    pub ended : (scanned before.0.comers z word).over ≡ true → EndedScan (scans before.0.comers z (comer_in before.0) word)

  -- it was the first door of a new scan
  abbrev pub Begun : Me S (View G) → ℕ → Me S (View G) → Type 0
  Begun before word after = ReadsDoor fresh before word after

  -- it was the next door of the scan under way
  abbrev pub GoneOn : Me S (View G) → ℕ → Me S (View G) → Type 0
  GoneOn before word after = ReadsDoor (comer_in before.0).scan before word after
