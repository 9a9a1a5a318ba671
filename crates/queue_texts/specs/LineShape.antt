-- What the reader of a journal line has found, before it looks at the ranges.
use Rattle.std.specs.Prelude.{◌≡◌, ℕ, min, List, ◌++◌, codes}
use Rattle.pq_types.specs.Item.{Item}
use Rattle.pq_types.specs.Asked.{Request}
use Rattle.pq_types.specs.declared.request.Request.TheVariants as request
use Rattle.pq_types.specs.Asked.{Reply}
use Rattle.pq_types.specs.declared.answer.Reply.TheVariants as reply
use Rattle.pq_types.specs.Asked.{Line}
use Rattle.pq_types.specs.Asked.{Operation}
use Rattle.pq_types.specs.Operation.{Asked, ByTicket, Shuts, Remove, Move}
use Rattle.pq_types.specs.declared.control.Kind.{Kind}
use Rattle.pq_types.specs.declared.control.Kind.TheVariants as kind
use Rattle.pq_types.specs.declared.control.Outcome.{Outcome}
use Rattle.pq_types.specs.declared.control.Outcome.TheVariants as outcome
use Rattle.queue_texts.specs.declared.line_reading.Parts.{Parts}
use Rattle.queue_texts.specs.declared.line_reading.Named.{Named}
use Rattle.queue_texts.specs.declared.line_reading.Named.TheVariants as named
use Rattle.queue_texts.specs.declared.line_reading.Shape.{Shape}

-- the number, where it has 64 bits, and else the first one that has more
abbrev pub capped : ℕ → ℕ
capped n = min n 18446744073709551616

-- the text tells this item's text, taken out or left
abbrev pub TellsItem : List ℕ → Outcome → List ℕ → Type 0
TellsItem text outcome.Pushed item = ⊥
TellsItem text outcome.Got item = text ≡ codes "got " ++ item
TellsItem text outcome.Least item = text ≡ codes "least " ++ item
TellsItem text outcome.Empty item = ⊥

-- the text is a reply without an item
abbrev pub TellsNone : List ℕ → Outcome → Type 0
TellsNone text outcome.Pushed = text ≡ codes "pushed"
TellsNone text outcome.Got = ⊥
TellsNone text outcome.Least = ⊥
TellsNone text outcome.Empty = text ≡ codes "empty"

-- the text begins with a request without an item and a space, and these bytes follow
abbrev pub AsksNone : List ℕ → Kind → List ℕ → Type 0
AsksNone text kind.Push rest = ⊥
AsksNone text kind.Pop rest = text ≡ codes "pop " ++ rest
AsksNone text kind.Least rest = text ≡ codes "least " ++ rest

-- the two numbers of this item, of which those with more than 64 bits are not told apart
abbrev pub AreParts : Parts → Item → Type 0
AreParts parts x = (parts.priority ≡ capped x.priority) × (parts.value ≡ capped x.value)

-- there is no item
abbrev pub AreNone : Parts → Type 0
AreNone parts = (parts.priority ≡ 0) × (parts.value ≡ 0)

-- the reply without its item, and the item's numbers
abbrev pub HasReply : Outcome → Parts → Reply → Type 0
HasReply o parts reply.Pushed = (o ≡ outcome.Pushed) × AreNone parts
HasReply o parts (reply.Got x) = (o ≡ outcome.Got) × AreParts parts x
HasReply o parts (reply.Least x) = (o ≡ outcome.Least) × AreParts parts x
HasReply o parts reply.Empty = (o ≡ outcome.Empty) × AreNone parts

-- the same of requests
abbrev pub HasRequest : Kind → Parts → Request → Type 0
HasRequest k parts (request.Push x) = (k ≡ kind.Push) × AreParts parts x
HasRequest k parts request.Pop = (k ≡ kind.Pop) × AreNone parts
HasRequest k parts request.Least = (k ≡ kind.Least) × AreNone parts

-- The same of operations: of a removal there is the ticket, of a move the ticket and the new priority. Those with more than 64
-- bits are not told apart.
abbrev pub HasOperation : Named → Operation → Type 0
HasOperation (named.Asked k parts) (Asked q) = HasRequest k parts q
HasOperation (named.Asked k parts) (ByTicket t) = ⊥
HasOperation (named.Asked k parts) Shuts = ⊥
HasOperation (named.Remove number) (Asked q) = ⊥
HasOperation (named.Remove number) (ByTicket (Remove ticket)) = number ≡ capped ticket
HasOperation (named.Remove number) (ByTicket (Move ticket priority)) = ⊥
HasOperation (named.Remove number) Shuts = ⊥
HasOperation (named.Move number to) (Asked q) = ⊥
HasOperation (named.Move number to) (ByTicket (Remove ticket)) = ⊥
HasOperation (named.Move number to) (ByTicket (Move ticket priority)) = (number ≡ capped ticket) × (to ≡ capped priority)
HasOperation (named.Move number to) Shuts = ⊥
HasOperation named.Shut (Asked q) = ⊥
HasOperation named.Shut (ByTicket t) = ⊥
HasOperation named.Shut Shuts = Unit {0}

-- what is found of this line under this number
pub record HasShape (s : Shape) (number : ℕ) (l : Line) : Type 0 where
  pub number_is : s.number ≡ capped number
  pub place_is : s.place ≡ capped l.place
  pub serial_is : s.serial ≡ capped l.serial
  pub operation_is : HasOperation s.named l.operation
  pub reply_is : HasReply s.outcome s.told l.reply
