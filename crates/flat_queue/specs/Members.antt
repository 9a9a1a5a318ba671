-- What a contract sees of a queue, of a newcomer and of a member; and what their fields keep.
use Rattle.std.specs.Prelude.{◌≡◌, ◌≢◌, ℕ, ◌+◌, ◌-◌, ◌*◌, ◌<◌, ◌≤◌, List, [], Option}
use Rattle.atomic_table.specs.Seated.{TableId}
use Rattle.pq_book.specs.Book.{AllHaveRoom}
use Rattle.split_core.specs.Places.{at, diagonal}
use Rattle.split_core.specs.Scan.{fresh}
use Rattle.split_core.specs.declared.places.TheConstants.{MAX_COMERS}
use Rattle.split_core.specs.declared.model.Comer.{Comer}
use Rattle.split_core.specs.declared.model.Scan.{Scan}
use Rattle.split_core.specs.declared.model.Next.TheVariants.{Stopped}
use Rattle.split_grid.specs.Opening.{places_of}
use Rattle.split_grid.specs.Steps.{strode}
use Rattle.split_grid.specs.declared.rule.Look.{Look}
use Rattle.desk_core.specs.Pen.{new_pen}
use Rattle.desk_core.specs.declared.model.PenState.{PenState}
use Rattle.announce_board.specs.Tokens.{AtDesk, Running as RunningDesk}
use Rattle.announce_board.specs.Opening.{pen_of_place}
use Rattle.announce_board.specs.declared.terms.Terms.{Terms}
use Rattle.announce_board.specs.Testimonies.{Testified}
use Rattle.flat_queue.specs.Gathered.{Gathers}
use Rattle.flat_queue.specs.Resting.{default_rest}
use Rattle.flat_queue.specs.declared.resting.Rest.{Rest}

-- a queue: the tables of its grid and of its desk, the numbers of its comers and places, how many
-- lines its journal has room for, and the terms of its desk
pub record QueueName : Type 0 where
  pub grid : TableId
  pub desk : TableId
  pub comers : ℕ
  pub places : ℕ
  pub room : ℕ
  pub terms : Terms

-- Every store of the queue's kind has room for as many items as its journal has lines: the argument
-- says how many each has room for. No push of such a queue is refused for want of memory.
abbrev pub HasRoomForAll : {S : Type 0} → (S → ℕ) → QueueName → Type 0
HasRoomForAll room queue = AllHaveRoom room queue.room

-- a newcomer: its queue, and the comer on its way
pub record Coming : Type 0 where
  pub queue : QueueName
  pub comer : Comer

-- a member: its queue, the comer that has stopped, the scan to which its next door belongs, each door
-- that it has read for a trail scan, what its pen has done and seen, and how its calls rest
pub record Joined : Type 0 where
  pub queue : QueueName
  pub comer : Comer
  pub scan : Scan
  pub door_looks : List Look
  pub pen : PenState
  pub rest : Rest

-- the pen that sleeps is the new one of this place, one of so many, at the desk of the sample
pub record IsPenFor (sample : AtDesk) (places place : ℕ) (sleeper : AtDesk) : Type 0 where
  pub pen : sleeper ≡ pen_of_place sample.table sample.state.room place
  pub within : place < places

-- The grid of so many comers has a place for each pen of the desk, and the tag of its pens names
-- that desk and its terms. A comer has a licence, and those of the other places are spare.
pub record AreTied (comers : ℕ) (sample : AtDesk) (places : ℕ) (terms : Terms) (desk : RunningDesk) (spare : Option Testified) : Type 0 where
  pub table : sample.table ≡ desk.table
  pub room : sample.state.room ≡ desk.room
  pub places_are : places ≡ desk.places
  pub terms_are : terms ≡ desk.terms
  pub counted : desk.places ≡ places_of comers
  pub some : 0 < comers
  pub few : comers ≤ desk.places
  pub licensed : Gathers desk.table [] (desk.places - comers) spare

-- The newcomer has stopped on a diagonal d below the number of comers, with at most 4(d + 1) steps
-- and no scan begun and no look for a trail scan. Its pen is the new one of the place where it stopped: idle, with no posts and
-- no calls. Its calls rest as those of one that was told nothing.
pub record Joins (before : Coming) (m : Joined) : Type 0 where
  pub queue : m.queue ≡ before.queue
  pub id : m.comer.id ≡ before.comer.id
  pub stopped : m.comer.next ≡ Stopped
  pub inside : diagonal m.comer.turns < m.queue.comers
  pub few : m.queue.comers ≤ MAX_COMERS
  pub bounded : m.comer.steps ≤ 4 * (diagonal m.comer.turns + 1)
  pub scan : m.scan ≡ fresh
  pub unscanned : m.comer.scan ≡ fresh
  pub unseen : m.comer.seen ≡ []
  pub unlooked : m.door_looks ≡ []
  pub pen : m.pen ≡ new_pen m.queue.room (at m.comer.turns)
  pub rest : m.rest ≡ default_rest

-- the newcomer took the next step of its way and is still on it
pub record StaysComing (before after : Coming) : Type 0 where
  pub queue : after.queue ≡ before.queue
  pub step : after.comer ≡ strode before.comer after.comer.read
  pub going : after.comer.next ≢ Stopped

-- the pen of a member, at the desk of its queue
abbrev pub pen_of : Joined → AtDesk
pen_of m = record { table = m.queue.desk; state = m.pen }

-- the member is one of the same queue and the same comer, whose scan stands where it stood, which has
-- looked at no door for a trail scan meanwhile, and whose calls rest as they did
pub record StaysAtPlace (before after : Joined) : Type 0 where
  pub queue : after.queue ≡ before.queue
  pub comer : after.comer ≡ before.comer
  pub scan : after.scan ≡ before.scan
  pub door_looks : after.door_looks ≡ before.door_looks
  pub rest : after.rest ≡ before.rest
