-- What waits in the queue: items with the journal line that put them in, which is their ticket.
use Rattle.std.specs.Prelude.{ℕ, ◌<◌, ◌==◌, Bool, nat_le, if◌then◌else◌, List, [], ◌∷◌, map, Option, Some, None}
use Rattle.pq_types.specs.Item.{Item, item, bound_of}
use Rattle.pq_types.specs.Asked.{Operation}
use Rattle.pq_types.specs.Asked.{Reply}
use Rattle.pq_types.specs.declared.request.Request.TheVariants.{Push, Pop, Least}
use Rattle.pq_types.specs.declared.answer.Reply.TheVariants.{Got, Empty}
use Rattle.pq_types.specs.Operation.{Asked, ByTicket, Shuts, Remove, Move, ticket_of}
use Rattle.pq_types.specs.Queue.{reply_to, IsProperRequestOf}

-- an entry as contracts see it, whatever the width of its parts
pub record Entry : Type 0 where
  pub line : ℕ
  pub priority : ℕ
  pub value : ℕ

-- the entry of this item, which this journal line put in
abbrev pub entry : ℕ → Item → Entry
entry line x = record { priority = x.priority; line = line; value = x.value }

-- the item of an entry, without its line
abbrev pub item_of : Entry → Item
item_of e = item e.priority e.value

-- the priority of e is not above that of f
abbrev pub entry_not_above : Entry → Entry → Bool
entry_not_above e f = nat_le e.priority f.priority

-- the entries with e behind every one whose priority is not above its own
abbrev pub with_entry : Entry → List Entry → List Entry
with_entry e [] = e ∷ []
with_entry e (f ∷ fs) = if entry_not_above f e then f ∷ with_entry e fs else e ∷ f ∷ fs

-- the entries without the one of this line
abbrev pub without : ℕ → List Entry → List Entry
without i [] = []
without i (e ∷ es) = if e.line == i then es else e ∷ without i es

-- the item of the entry of this line, where it waits
abbrev pub item_at : ℕ → List Entry → Option Item
item_at i [] = None
item_at i (e ∷ es) = if e.line == i then Some (item_of e) else item_at i es

-- the entries with this item under another priority, as this line put it in, where there is one
abbrev pub with_moved : ℕ → ℕ → Option Item → List Entry → List Entry
with_moved line priority None es = es
with_moved line priority (Some x) es = with_entry (entry line (item priority x.value)) es

-- The entries after what this line says was done: a push puts its entry behind every one whose priority is not above
-- its own, a pop takes the first one out, a removal that of its line, where it waits. A move puts that one behind every
-- one whose priority is not above its new one, as an entry of its own line. A shut changes nothing.
abbrev pub entries_after : List Entry → ℕ → Operation → List Entry
entries_after es line (Asked (Push x)) = with_entry (entry line x) es
entries_after [] line (Asked Pop) = []
entries_after (e ∷ es) line (Asked Pop) = es
entries_after es line (Asked Least) = es
entries_after es line (ByTicket (Remove i)) = without i es
entries_after es line (ByTicket (Move i priority)) = with_moved line priority (item_at i es) (without i es)
entries_after es line Shuts = es

-- what is told of an item that was to be taken out
abbrev pub taken : Option Item → Reply
taken None = Empty
taken (Some x) = Got x

-- the reply to it: to a request that of the queue with these items, to the use of a ticket the item as it
-- was, where it waits; to a shut Empty, as it takes nothing out
abbrev pub reply_by : List Entry → Operation → Reply
reply_by es (Asked q) = reply_to (map item_of es) q
reply_by es (ByTicket ticketed) = taken (item_at (ticket_of ticketed) es)
reply_by es Shuts = Empty

-- what was done, with an item in the range where a request has one, and with a priority in the range where a move has one
abbrev pub IsProperOperationOf : Bool → Operation → Type 0
IsProperOperationOf wide (Asked q) = IsProperRequestOf wide q
IsProperOperationOf wide (ByTicket (Remove i)) = Unit {0}
IsProperOperationOf wide (ByTicket (Move i priority)) = priority < bound_of wide
IsProperOperationOf wide Shuts = Unit {0}
