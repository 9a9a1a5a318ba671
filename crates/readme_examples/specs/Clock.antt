-- What a simulator's clock is answered.
use Rattle.std.specs.Prelude.{◌≡◌, ℕ, if◌then◌else◌, nat_le}
use Rattle.pq_types.specs.Item.{Item}
use Rattle.pq_types.specs.declared.answer.Reply.TheVariants.{Got}
use Rattle.pq_types.specs.Asked.{Answer}
use Rattle.pq_types.specs.declared.answer.Answer.TheVariants.{Entered, BookFull, NoMemory, Refused}

-- the request has a line in the journal
abbrev pub IsEntered : Answer → Type 0
IsEntered (Entered number reply) = Unit {0}
IsEntered BookFull = ⊥
IsEntered NoMemory = ⊥
IsEntered (Refused why) = ⊥

-- the event of the two that comes first: the earlier one, and of two at the same time the one put
-- in first
abbrev pub earlier : Item → Item → Item
earlier arrival departure = if nat_le arrival.priority departure.priority then arrival else departure

-- the request is answered with the item of this event, in the journal's line of this number
abbrev pub Tells : Answer → ℕ → Item → Type 0
Tells answer number event = answer ≡ Entered number (Got event)
