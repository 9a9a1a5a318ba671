-- What a sweep by a trail scan makes of the member that leads.
use Rattle.std.specs.Prelude.{◌≡◌, ℕ, ◌+◌, ◌*◌, ◌≤◌, true, List, [], ◌++◌, length, Contains}
use Rattle.pq_types.specs.Control.{is_answer}
use Rattle.pq_types.specs.Asked.{Request}
use Rattle.pq_book.specs.Book.{Volume}
use Rattle.split_core.specs.Trail.{Trail, trail_start}
use Rattle.split_core.specs.TrailReads.{trail_by, OnWay}
use Rattle.desk_core.specs.Pen.{after_release}
use Rattle.desk_core.specs.declared.model.PenState.{PenState}
use Rattle.desk_core.specs.declared.model.Standing.TheVariants.{Waiting}
use Rattle.announce_board.specs.Serving.{Wins}
use Rattle.split_grid.specs.Opening.{places_of}
use Rattle.split_grid.specs.Tokens.{Resting}
use Rattle.split_grid.specs.DoorLooks.{looks_by, HasLooked}
use Rattle.split_grid.specs.declared.rule.Look.{Look}
use Rattle.split_core.specs.declared.model.Comer.{Comer}
use Rattle.flat_queue.specs.declared.waiting.DeskTag.{DeskTag}
use Rattle.flat_queue.specs.Members.{Joined, StaysAtPlace}
use Rattle.flat_queue.specs.Sweeping.{IsServedBy}

-- A whole trail scan of this comer, one of so many, by the words that it read: these are the looks that
-- the comer has made meanwhile, and there is one run of the grid in which it has made all its looks, each
-- of a door as it stood then. The scan is over, and has found each place on its comer's way; it read so
-- many doors, at most 1 + 2m where it found m, and no more than the grid has.
pub record IsWholeTrail (comers : ℕ) (comer : Comer) (before after : List Look) (doors : ℕ) (z : Trail) : Type 0 where
  pub words : List ℕ
  pub by : z ≡ trail_by comers words
  pub looks : after ≡ before ++ looks_by comers trail_start words
  pub run : HasLooked comers comer after
  pub over : z.ahead ≡ []
  pub way : (p : ℕ) → OnWay comer.turns p → Contains z.found p
  pub read_all : doors ≡ z.doors
  pub few : doors ≤ 1 + 2 * length z.found
  pub within : doors ≤ places_of comers

-- The pen has served the places that a whole trail scan of its comer found, and answered no more requests
-- than that read doors. Items have so many words.
pub record IsFollowedBy (words : ℕ) (s s' : Resting DeskTag) (answers doors : ℕ) (before after : PenState) : Type 0 where
  pub trail : Trail
  pub whole : IsWholeTrail s.comers s.comer s.looks s'.looks doors trail
  pub served : IsServedBy words trail.found answers before after
  pub few : answers ≤ doors

-- The member has made a whole trail scan, and has served each place that it found, in that order; among
-- these is its own. So, where it waits, an answer stands in its own record. It has answered no more
-- requests than it read doors, and its comer stands as it stood, but for its looks.
pub record IsTrailSweptBy (words : ℕ) (before : Joined) (answers doors : ℕ) (after : Joined) : Type 0 where
  pub stays : StaysAtPlace (record before { door_looks = after.door_looks }) after
  pub trail : Trail
  pub whole : IsWholeTrail before.queue.comers before.comer before.door_looks after.door_looks doors trail
  pub served : IsServedBy words trail.found answers before.pen after.pen
  pub few : answers ≤ doors
  pub own : (asked : Request) → before.pen.standing ≡ Waiting asked → is_answer after.pen.own ≡ true

-- A round of the member by a trail scan: it won the lock, swept and released. Where it waited, it still
-- does, and an answer stands in its own record, so that its next look gives it.
pub record MakesTrailRoundBy (words : ℕ) (before : Joined) (answers doors : ℕ) (after : Joined) : Type 0 where
  pub book : Volume
  pub led : Joined
  pub swept : Joined
  pub won : Wins before.pen book led.pen
  pub stays : StaysAtPlace before led
  pub sweep : IsTrailSweptBy words led answers doors swept
  pub release : after ≡ record swept { pen = after_release swept.pen }
  pub own : (asked : Request) → before.pen.standing ≡ Waiting asked
      → (after.pen.standing ≡ Waiting asked) × (is_answer after.pen.own ≡ true)

-- The same of narrow items, which have one word.
abbrev pub IsTrailSwept : (before : Joined) (answers doors : ℕ) (after : Joined) → Type 0
IsTrailSwept = IsTrailSweptBy 1

abbrev pub MakesTrailRound : (before : Joined) (answers doors : ℕ) (after : Joined) → Type 0
MakesTrailRound = MakesTrailRoundBy 1
