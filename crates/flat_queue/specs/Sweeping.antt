-- What a sweep makes of the member that leads.
use Rattle.std.specs.Prelude.{◌≡◌, ℕ, ◌+◌, ◌≤◌, Bool, true, false, List, [], ◌∷◌, ◌++◌, length, Contains}
use Rattle.pq_types.specs.Control.{is_answer}
use Rattle.pq_types.specs.Asked.{Request}
use Rattle.pq_book.specs.Book.{Volume}
use Rattle.split_core.specs.Collect.{EndedScan}
use Rattle.desk_core.specs.declared.model.PenState.{PenState}
use Rattle.desk_core.specs.declared.model.Standing.TheVariants.{Waiting}
use Rattle.announce_board.specs.Serving.{ServesWhereBy, Wins}
use Rattle.split_grid.specs.Tokens.{Resting}
use Rattle.split_grid.specs.Calls.{IsStill}
use Rattle.split_grid.specs.Opening.{places_of}
use Rattle.flat_queue.specs.declared.waiting.DeskTag.{DeskTag}
use Rattle.desk_core.specs.Pen.{after_release}
use Rattle.flat_queue.specs.Members.{Joined, StaysAtPlace}

-- one for an answer that was given, else none
abbrev pub one_if : Bool → ℕ
one_if true = 1
one_if false = 0

-- The pen has served these places, the first of the list first: of each it has read the mail and
-- answered the request that stood posted there, if one did; so many did. Items have so many words.
abbrev pub SweepsBy : ℕ → List ℕ → ℕ → PenState → PenState → Type 0
SweepsBy words [] served p p' = (served ≡ 0) × (p' ≡ p)
SweepsBy words (place ∷ places) served p p' =
    (answered : Bool) × (m : PenState) × (book : Volume) × (rest : ℕ) × ServesWhereBy words answered place p m book
    × (served ≡ one_if answered + rest) × SweepsBy words places rest m p'

-- what a pen keeps while it serves
pub record KeepsServing (p p' : PenState) : Type 0 where
  pub place : p'.place ≡ p.place
  pub room : p'.room ≡ p.room
  pub posts : p'.posts ≡ p.posts
  pub standing : p'.standing ≡ p.standing
  pub mine : p'.mine ≡ p.mine
  pub known : p'.known ≡ p.known
  pub begins : p'.begins ≡ p.begins
  pub ends : p'.ends ≡ p.ends

-- the comer has made one whole new scan, a step for each of these doors, each read once at most
pub record IsScanned (before : Resting DeskTag) (doors : ℕ) (after : Resting DeskTag) : Type 0 where
  pub still : IsStill before after
  pub steps : after.comer.steps ≡ before.comer.steps + doors
  pub read_all : doors ≡ after.scan.doors
  pub within : doors ≤ places_of before.comers
  pub over : after.scan.over ≡ true
  pub ended : EndedScan after.comer
  pub scan : after.scan ≡ after.comer.scan

-- The pen has served these places in their order, each once, and answered so many requests, one at a
-- place at most. Where
-- its own place is among them and it waits, an answer stands in its own record.
pub record IsServedBy (words : ℕ) (found : List ℕ) (served : ℕ) (p p' : PenState) : Type 0 where
  pub sweeps : SweepsBy words found served p p'
  pub few : served ≤ length found
  pub dealt : p'.dealt ≡ p.dealt ++ found
  pub keeps : KeepsServing p p'
  pub own : (asked : Request) → p.standing ≡ Waiting asked → Contains found p.place → is_answer p'.own ≡ true

-- The member has made one whole new scan, a step for each door, of which it read each once at most,
-- and has answered no more requests than it read doors. It has served each place that it found, in that
-- order; among these is its own. So, where it waits, an answer stands in its own record. It has made no
-- look for a trail scan, and its calls rest as they did.
pub record IsSweptBy (words : ℕ) (before : Joined) (answers doors : ℕ) (after : Joined) : Type 0 where
  pub queue : after.queue ≡ before.queue
  pub id : after.comer.id ≡ before.comer.id
  pub turns : after.comer.turns ≡ before.comer.turns
  pub steps : after.comer.steps ≡ before.comer.steps + doors
  pub read_all : doors ≡ after.scan.doors
  pub within : doors ≤ places_of before.queue.comers
  pub few : answers ≤ doors
  pub over : after.scan.over ≡ true
  pub scan : after.comer.scan ≡ after.scan
  pub door_looks : after.door_looks ≡ before.door_looks
  pub rest : after.rest ≡ before.rest
  pub ended : EndedScan after.comer
  pub served : IsServedBy words after.scan.found answers before.pen after.pen
  pub own : (asked : Request) → before.pen.standing ≡ Waiting asked → is_answer after.pen.own ≡ true

-- A round of the member: it won the lock, swept and released. Where it waited, it still does, and
-- an answer stands in its own record, so that its next look gives it.
pub record MakesRoundBy (words : ℕ) (before : Joined) (answers doors : ℕ) (after : Joined) : Type 0 where
  pub book : Volume
  pub led : Joined
  pub swept : Joined
  pub won : Wins before.pen book led.pen
  pub stays : StaysAtPlace before led
  pub sweep : IsSweptBy words led answers doors swept
  pub release : after ≡ record swept { pen = after_release swept.pen }
  pub own : (asked : Request) → before.pen.standing ≡ Waiting asked
      → (after.pen.standing ≡ Waiting asked) × (is_answer after.pen.own ≡ true)

-- The same of narrow items, which have one word.
abbrev pub IsSwept : (before : Joined) (answers doors : ℕ) (after : Joined) → Type 0
IsSwept = IsSweptBy 1

abbrev pub MakesRound : (before : Joined) (answers doors : ℕ) (after : Joined) → Type 0
MakesRound = MakesRoundBy 1
