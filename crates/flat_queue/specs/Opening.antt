-- What a queue is opened with, and why it is not opened.
use Rattle.std.specs.Prelude.{◌≡◌, ℕ, List, map, length, slice_get, Some}
use Rattle.std.specs.List.{All}
use Rattle.atomic_table.specs.Seated.{TableId}
use Rattle.announce_board.specs.Opening.{pen_of_place}
use Rattle.announce_board.specs.Tokens.{AtDesk}
use Rattle.flat_queue.specs.declared.waiting.Waiting.{Waiting}
use Rattle.split_core.specs.Comer.{comer_of}
use Rattle.split_core.specs.Ids.{id_code}
use Rattle.split_grid.specs.Opening.{places_of}
use Rattle.split_grid.specs.Tokens.{Walking}
use Rattle.flat_queue.specs.declared.waiting.DeskTag.{DeskTag}
use Rattle.flat_queue.specs.Members.{QueueName, Coming}
use Rattle.flat_queue.specs.declared.error.QueueError.{QueueError}
use Rattle.flat_queue.specs.declared.error.QueueError.TheVariants.{Comers, LinesOutOfRange, NoMemory}

-- the newcomer with this id, before its first step
abbrev pub newcomer_of : QueueName → ℕ → Coming
newcomer_of queue id = record { queue = queue; comer = comer_of id }

-- the pen, which sleeps, for the grid
abbrev pub waiting_of : AtDesk → Waiting
waiting_of pen = record { sleeper = pen }

-- the value for place i is the new pen of that place
abbrev pub AreAsleep : TableId → ℕ → List Waiting → Type 0
AreAsleep table room waiting = (i : ℕ) (x : Waiting) → slice_get waiting i ≡ Some x → x.sleeper ≡ pen_of_place table room i

-- what a newcomer that walks the grid is to the queue
abbrev pub is_coming : Walking DeskTag → Coming
is_coming w =
    record {
      queue =
          record {
            grid = w.table;
            desk = w.tag.sample.value.table;
            comers = w.comers;
            places = w.tag.places;
            room = w.tag.sample.value.state.room;
            terms = w.tag.terms;
          };
      comer = w.comer;
    }

-- the queue has the comers of these ids, n(n + 1)/2 places for n of them, and this room; and there
-- is a newcomer of it for each id, in their order, which may join it
pub record Opens (ids : List ℕ) (room : ℕ) (queue : QueueName) (newcomers : List Coming) : Type 0 where
  pub counted : queue.comers ≡ length ids
  pub places_are : queue.places ≡ places_of (length ids)
  pub room_is : queue.room ≡ room
  pub dealt : newcomers ≡ map (newcomer_of queue) ids
  pub here : All (λ n. n.queue ≡ queue) newcomers

-- the number of each refusal
abbrev pub queue_code : QueueError → ℕ
queue_code (Comers fault) = id_code fault
queue_code LinesOutOfRange = 5
queue_code NoMemory = 6
