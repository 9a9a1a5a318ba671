-- What the calls of a trail scan tell of it, and what a read of a door tells.
use Rattle.std.specs.Prelude.{◌≡◌, ℕ, ◌+◌, ◌*◌, ◌≤◌, ◌==◌, Bool, ◌⊎◌, length, List, [], ◌∷◌, ◌++◌, Contains, Option, Some, None}
use Rattle.atomic_table.specs.Table.{Me}
use Rattle.split_core.specs.Places.{place}
use Rattle.split_core.specs.Trail.{Spot, Trail, trail_start}
use Rattle.split_core.specs.TrailReads.{reads_word, reads_words, trail_by, OnWay, Heeds}
use Rattle.split_core.specs.Tracker.{Stores}
use Rattle.split_core.specs.declared.tracker.Tracker.{Tracker}
use Rattle.split_grid.specs.DoorLooks.{look, looks_by, HasLooked}
use Rattle.split_grid.specs.declared.rule.View.{View}
use Rattle.split_grid.specs.declared.rule.Look.{Look}
use Rattle.split_grid.specs.Rule.{comer_in}
use Rattle.split_grid.specs.Tokens.{Resting}

-- a trail scan under way: the number of the comers of its grid, and what is stored of it
pub record Following : Type 0 where
  pub comers : ℕ
  pub tracker : Tracker

-- The seat, of a comer that has stopped, read the door of the place p as this word: it has looked once
-- more, and is as it was in all else. All that it has ever read, this word too, it read in one run of
-- the grid; and where the place is on its comer's own way, the door was closed.
pub record SeesDoor {S G : Type 0} (p : ℕ) (before : Me S (View G)) (word : ℕ) (after : Me S (View G)) : Type 0 where
  pub looks : after ≡ (record before.0 { looks = before.0.looks ++ look p word ∷ [] }, before.1)
  pub run : HasLooked before.0.comers (comer_in before.0) (before.0.looks ++ look p word ∷ [])
  pub way : OnWay (comer_in before.0).turns p → word ≡ 1

-- the places found: one more, or no more
abbrev pub found_after : Trail → Option ℕ → List ℕ
found_after z None = z.found
found_after z (Some p) = z.found ++ p ∷ []

module _ {G : Type 0} where
  -- What is stored is the trail scan z by the words that it has read: behind its earlier looks the comer
  -- has made those of this scan, and no others. Each door on its way that it has read was closed. Where
  -- it has read a door, all looks of the comer were made in one run of the grid.
  pub record IsTrail (earlier : List Look) (s : Resting G) (f : Following) (z : Trail) : Type 0 where
    pub words : List ℕ
    pub is : z ≡ trail_by s.comers words
    pub stores : Stores s.comers f.tracker z
    pub heeds : Heeds s.comers s.comer.turns trail_start words
    pub looks : s.looks ≡ earlier ++ looks_by s.comers trail_start words
    pub run : (words ≡ []) ⊎ HasLooked s.comers s.comer s.looks

  -- the comer stands as before, and has looked at this door as its last
  abbrev pub LooksOnce : Resting G → Look → Resting G → Type 0
  LooksOnce before last after = after ≡ record before { looks = before.looks ++ last ∷ [] }

  -- one door was read, of the next place of the trail scan z: its place, and whether it was closed
  pub record ReadsTrail (earlier : List Look) (s : Resting G) (z : Trail) (told : ℕ × Bool)
      (s' : Resting G) (after : Following) : Type 0 where
    pub next : Spot
    pub rest : List Spot
    pub ahead : z.ahead ≡ next ∷ rest
    pub at_place : told.0 ≡ place next.row next.column
    pub word : ℕ
    pub closed : told.1 ≡ (word == 1)
    pub looks : LooksOnce s (look told.0 word) s'
    pub is : IsTrail earlier s' after (reads_word s.comers z word)

  -- the trail scan is over: it has found each place on its comer's way, and read at most 1 + 2m doors
  -- where it has found m; and all looks of the comer were made in one run of the grid
  pub record TrailEnds (s : Resting G) (z : Trail) : Type 0 where
    pub over : z.ahead ≡ []
    pub way : (p : ℕ) → OnWay s.comer.turns p → Contains z.found p
    pub few : z.doors ≤ 1 + 2 * length z.found
    pub run : HasLooked s.comers s.comer s.looks

  -- What the trail scan z is after a call that told this: it has read some doors more, and the comer has
  -- looked at these and no others.
  pub record FollowsOn (earlier : List Look) (s : Resting G) (z : Trail) (told : Option ℕ)
      (s' : Resting G) (after : Following) : Type 0 where
    pub trail : Trail
    pub is : IsTrail earlier s' after trail
    pub words : List ℕ
    pub reads : trail ≡ reads_words s.comers z words
    pub looks : s'.looks ≡ s.looks ++ looks_by s.comers z words
    pub found : trail.found ≡ found_after z told
    pub ended : told ≡ None → TrailEnds s' trail

  -- whichever trail scan is stored, behind whatever earlier looks: one door of it was read, or a call went on with it
  abbrev pub ReadsFrom : Resting G → Following → ℕ × Bool → Resting G → Following → Type 0
  ReadsFrom s f told s' after = (earlier : List Look) (z : Trail) → IsTrail earlier s f z → ReadsTrail earlier s z told s' after

  abbrev pub FollowsFrom : Resting G → Following → Option ℕ → Resting G → Following → Type 0
  FollowsFrom s f told s' after = (earlier : List Look) (z : Trail) → IsTrail earlier s f z → FollowsOn earlier s z told s' after
