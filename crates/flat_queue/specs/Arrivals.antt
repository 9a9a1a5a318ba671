-- What one stride of a newcomer comes to.
use Rattle.std.specs.Prelude.{◌≡◌}
use Rattle.split_grid.specs.Steps.{strode}
use Rattle.flat_queue.specs.Members.{QueueName, Coming, Joins, StaysComing}
use Rattle.flat_queue.specs.declared.member.Arrival.{Arrival}
use Rattle.flat_queue.specs.declared.member.Arrival.TheVariants.{Going, Here}

-- The newcomer took the next step of its way. It is a member exactly where that step stopped it.
module _ {S P : Type 0} where
  abbrev pub Arrives : Coming → Arrival S P → Type 0
  Arrives before (Going n) = StaysComing before n
  Arrives before (Here m) = (m.comer ≡ strode before.comer m.comer.read) × Joins before m

  -- it is on its way to this queue, or has joined it
  abbrev pub ComesTo : QueueName → Arrival S P → Type 0
  ComesTo queue (Going n) = n.queue ≡ queue
  ComesTo queue (Here m) = m.queue ≡ queue
