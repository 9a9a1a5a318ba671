-- What the calls for C make of their member that use a ticket: one removes its item, the other moves it to another priority.
use Rattle.std.specs.Prelude.{ℕ, Option, Some}
use Rattle.pq_types.specs.Asked.{Answer}
use Rattle.pq_types.specs.Operation.{Ticketed, Remove, Move}
use Rattle.flat_queue.specs.Members.{Joined}
use Rattle.flat_queue.specs.Tickets.{CarriesOutByTicket, TellsFound}
use Rattle.queue_pool.specs.Shared.{MayCall}
use Rattle.queue_c.specs.Plain.{Tells}
use Rattle.queue_c.specs.Asking.{OwnAnswers}
use Rattle.queue_c.specs.Calls.{words_of_item}
use Rattle.queue_c.specs.declared.contents.Contents.{Contents}
use Rattle.queue_c.specs.declared.plain.PlainAnswer.{PlainAnswer}

-- the idle member has found the lock free, and carried this use of a ticket out, with the answer that is told
abbrev pub UsingTicket : Option Joined → Ticketed → PlainAnswer → Option Joined → Type 0
UsingTicket (Some before) ticketed told (Some after) =
    MayCall before × ((answer : Answer) × CarriesOutByTicket words_of_item ticketed before answer after × TellsFound ticketed answer × Tells told answer)
UsingTicket before ticketed told after = ⊥

-- a use of a ticket, with the answer that is told
abbrev pub TicketAnswers : Option Contents → Ticketed → ℕ → PlainAnswer → Option Contents → Type 0
TicketAnswers before ticketed = OwnAnswers (λ was told is. UsingTicket was ticketed told is) before

-- a removal by this ticket, with the answer that is told
abbrev pub RemoveAnswers : (before : Option Contents) (ticket code : ℕ) (told : PlainAnswer) (after : Option Contents) → Type 0
RemoveAnswers before ticket code told after = TicketAnswers before (Remove ticket) code told after

-- a move of the item with this ticket to this priority, with the answer that is told
abbrev pub RescheduleAnswers : (before : Option Contents) (ticket priority code : ℕ) (told : PlainAnswer) (after : Option Contents) → Type 0
RescheduleAnswers before ticket priority code told after = TicketAnswers before (Move ticket priority) code told after
