-- What the calls of a grid make of its comers.
use Rattle.std.specs.Prelude.{◌≡◌, ◌≢◌, ℕ, zero, suc, ◌+◌, ◌*◌, ◌<◌, ◌≤◌, ◌==◌, Bool}
use Rattle.std.specs.Prelude.{true, false, [], ◌∷◌, ◌++◌, Option, Some, None}
use Rattle.split_core.specs.Places.{place, at, diagonal}
use Rattle.split_core.specs.Scan.{fresh}
use Rattle.split_core.specs.Comer.{scans}
use Rattle.split_core.specs.Collect.{EndedScan}
use Rattle.split_core.specs.declared.places.TheConstants.{MAX_COMERS}
use Rattle.split_core.specs.declared.model.Next.TheVariants.{Stopped}
use Rattle.split_grid.specs.Steps.{strode}
use Rattle.split_grid.specs.DoorLooks.{HasLooked}
use Rattle.split_grid.specs.Opening.{places_of}
use Rattle.split_grid.specs.Tokens.{Walking, Resting}
use Rattle.split_grid.specs.declared.tokens.Stride.{Stride}
use Rattle.split_grid.specs.declared.tokens.Stride.TheVariants.{Going, Home}

module _ {G : Type 0} where
  -- a newcomer on diagonal d of a grid of 1 to 64 comers has taken fewer than 4(d + 1) steps; it
  -- has begun no scan and seen nothing
  pub record IsOnItsWay (n : Walking G) : Type 0 where
    pub going : n.comer.next ≢ Stopped
    pub inside : diagonal n.comer.turns < n.comers
    pub few : n.comers ≤ MAX_COMERS
    pub bounded : n.comer.steps < 4 * (diagonal n.comer.turns + 1)
    pub unscanned : n.comer.scan ≡ fresh
    pub unseen : n.comer.seen ≡ []

  -- its comer took the next step of its way, and is still on it; a step that reads a word keeps it
  pub record StaysOnItsWay (before after : Walking G) : Type 0 where
    pub table : after.table ≡ before.table
    pub tag : after.tag ≡ before.tag
    pub comers : after.comers ≡ before.comers
    pub step : after.comer ≡ strode before.comer after.comer.read
    pub going : after.comer.next ≢ Stopped

module _ {T G : Type 0} (fits : G → ℕ → T → Type 0) where
  -- The comer has stopped on a diagonal d below the number of comers, so below 64. It has taken at
  -- most 4(d + 1) steps, begun no scan, seen nothing and looked at no door, and the value is that of
  -- its place.
  pub record IsHome (before : Walking G) (s : Resting G) (x : T) : Type 0 where
    pub table : s.table ≡ before.table
    pub tag : s.tag ≡ before.tag
    pub comers : s.comers ≡ before.comers
    pub id : s.comer.id ≡ before.comer.id
    pub stopped : s.comer.next ≡ Stopped
    pub value : fits before.tag (at s.comer.turns) x
    pub bounded : s.comer.steps ≤ 4 * (diagonal s.comer.turns + 1)
    pub inside : diagonal s.comer.turns < s.comers
    pub few : s.comers ≤ MAX_COMERS
    pub scan : s.scan ≡ fresh
    pub unscanned : s.comer.scan ≡ fresh
    pub unseen : s.comer.seen ≡ []
    pub unlooked : s.looks ≡ []

  -- The comer took the next step of its way. It is home exactly where that step stopped it.
  abbrev pub Strides : Walking G → Stride T G → Type 0
  Strides before (Going n) = StaysOnItsWay before n
  Strides before (Home s x) = (s.comer ≡ strode before.comer s.comer.read) × IsHome before s x

module _ {G : Type 0} where
  -- the comer stands as before, at the same place of the same grid, and has made no look for a trail
  -- scan
  pub record IsStill (before after : Resting G) : Type 0 where
    pub table : after.table ≡ before.table
    pub tag : after.tag ≡ before.tag
    pub comers : after.comers ≡ before.comers
    pub id : after.comer.id ≡ before.comer.id
    pub turns : after.comer.turns ≡ before.comer.turns
    pub next : after.comer.next ≡ before.comer.next
    pub looks : after.looks ≡ before.looks

  -- the scan read the doors up to and with that of p, a place of the grid that it had not come to,
  -- and of these p alone was closed
  pub record Finds (before : Resting G) (p : ℕ) (after : Resting G) : Type 0 where
    pub found : after.scan.found ≡ before.scan.found ++ p ∷ []
    pub seen : after.comer.seen ≡ before.comer.seen ++ p ∷ []
    pub onward : before.scan.doors ≤ p
    pub doors : after.scan.doors ≡ p + 1
    pub within : p < places_of before.comers

  -- the scan is over, and has found no more places; it has read each door of the grid once at most
  pub record IsOver (before after : Resting G) : Type 0 where
    pub over : after.scan.over ≡ true
    pub onward : before.scan.doors ≤ after.scan.doors
    pub within : after.scan.doors ≤ places_of before.comers
    pub found : after.scan.found ≡ before.scan.found
    pub seen : after.comer.seen ≡ before.comer.seen

  -- One door was read, the next of the scan: what the comer is now, and whether the door was
  -- closed. A scan has read the doors of all places before its next. The comer stands so at the end of
  -- a run of the grid, and so each word that it has read was there that of its door.
  pub record ReadsOn (before : Resting G) (shut : Bool) (after : Resting G) : Type 0 where
    pub table : after.table ≡ before.table
    pub tag : after.tag ≡ before.tag
    pub comers : after.comers ≡ before.comers
    pub comer : after.comer ≡ scans before.comers before.scan before.comer after.comer.read
    pub scan : after.scan ≡ after.comer.scan
    pub looks : after.looks ≡ before.looks
    pub run : HasLooked after.comers after.comer after.looks
    pub closed : shut ≡ (after.comer.read == 1)
    pub counted : before.scan.doors ≡ place before.scan.row before.scan.column
    pub within : before.scan.doors < place 0 before.comers
    pub ended : after.scan.over ≡ true → EndedScan after.comer

  -- so many doors were read, each the next of the scan, and all were open
  abbrev pub ReadsOpen : ℕ → Resting G → Resting G → Type 0
  ReadsOpen zero before after = after ≡ before
  ReadsOpen (suc doors) before after = (m : Resting G) × ReadsOpen doors before m × ReadsOn m false after

  -- Some open doors were read; and then, where a place was told, the next door of the scan: it is that of
  -- this place, and was closed.
  abbrev pub ReadsUpTo : Resting G → Option ℕ → Resting G → Type 0
  ReadsUpTo before None after = (doors : ℕ) × ReadsOpen doors before after
  ReadsUpTo before (Some p) after =
      (doors : ℕ) × (m : Resting G) × ReadsOpen doors before m × (p ≡ place m.scan.row m.scan.column) × ReadsOn m true after
