-- What a line of the journal says was done: a request, or the use of a ticket.
use Rattle.std.specs.Prelude.{◌≡◌, ℕ}
use Rattle.std.proofs.Common.{refl, ap}
use Rattle.pq_types.specs.Item.{Item}
use Rattle.pq_types.specs.declared.request.Request.{Request}
use Rattle.pq_types.specs.declared.request.Request.TheVariants.{Push, Pop, Least}
use Rattle.pq_types.specs.declared.operation.Done.{Done}
use Rattle.pq_types.specs.declared.operation.Done.TheVariants as done
use Rattle.pq_types.specs.declared.ticketed.Deed.{Deed}
use Rattle.pq_types.specs.declared.ticketed.Deed.TheVariants as deed

-- what is done with a ticket, the number of the line that put an item in: the item is removed, or moved to this priority
pub data Ticketed : Type 0 where
  Remove : ℕ → Ticketed
  Move : ℕ → ℕ → Ticketed

-- the ticket that is used
abbrev pub ticket_of : Ticketed → ℕ
ticket_of (Remove ticket) = ticket
ticket_of (Move ticket priority) = ticket

-- what the code's enum says is done with a ticket, where its parts are these numbers
abbrev pub ticketed : {P : Type 0} → (P → ℕ) → Deed P → Ticketed
ticketed number (deed.Remove ticket) = Remove ticket
ticketed number (deed.Move priority ticket) = Move ticket (number priority)

-- and back
abbrev pub deed_of : {P : Type 0} → (ℕ → P) → Ticketed → Deed P
deed_of part (Remove ticket) = deed.Remove ticket
deed_of part (Move ticket priority) = deed.Move (part priority) ticket

pub deed_ticketed : {P : Type 0} (number : P → ℕ) (part : ℕ → P) → ((p : P) → part (number p) ≡ p) → (d : Deed P)
    → deed_of part (ticketed number d) ≡ d
deed_ticketed number part back (deed.Remove ticket) = refl
deed_ticketed number part back (deed.Move priority ticket) = ap (λ p. deed.Move p ticket) (back priority)

-- a request, as it may be posted; or the use of a ticket, or that the queue is shut, which are never posted
pub data OperationOf (X : Type 0) : Type 0 where
  Asked : Request X → OperationOf X
  ByTicket : Ticketed → OperationOf X
  Shuts : OperationOf X

-- the request that is replied to as this is: the use of a ticket as a pop, a shut as a pop that finds nothing
abbrev pub request_of : {X : Type 0} → OperationOf X → Request X
request_of (Asked request) = request
request_of (ByTicket ticketed) = Pop
request_of Shuts = Pop

-- what the code's one enum says was done, where its parts are these numbers
abbrev pub seen : {P : Type 0} → (P → ℕ) → Done P → OperationOf Item
seen number (done.Push x) = Asked (Push x)
seen number done.Pop = Asked Pop
seen number done.Least = Asked Least
seen number (done.Remove ticket) = ByTicket (Remove ticket)
seen number (done.Move priority ticket) = ByTicket (Move ticket (number priority))
seen number done.Shut = Shuts

-- and back
abbrev pub shown : {P : Type 0} → (ℕ → P) → OperationOf Item → Done P
shown part (Asked (Push x)) = done.Push x
shown part (Asked Pop) = done.Pop
shown part (Asked Least) = done.Least
shown part (ByTicket (Remove ticket)) = done.Remove ticket
shown part (ByTicket (Move ticket priority)) = done.Move (part priority) ticket
shown part Shuts = done.Shut

pub shown_seen : {P : Type 0} (number : P → ℕ) (part : ℕ → P) → ((p : P) → part (number p) ≡ p) → (d : Done P)
    → shown part (seen number d) ≡ d
shown_seen number part back (done.Push x) = refl
shown_seen number part back done.Pop = refl
shown_seen number part back done.Least = refl
shown_seen number part back (done.Remove ticket) = refl
shown_seen number part back (done.Move priority ticket) = ap (λ p. done.Move p ticket) (back priority)
shown_seen number part back done.Shut = refl
