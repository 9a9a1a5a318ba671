-- The journal: what its lines leave in the queue, and when it is the history of one queue.
use Rattle.std.specs.Prelude.{◌≡◌, ℕ, ◌+◌, ◌<◌, ◌≤◌, max, if◌then◌else◌, ◌==◌, ◌||◌, Bool, true, false, List, [], ◌∷◌, ◌++◌, length, map}
use Rattle.std.specs.List.{AllByRecursion}
use Rattle.pq_types.specs.Item.{Item}
use Rattle.pq_types.specs.Asked.{Request}
use Rattle.pq_types.specs.Asked.{Reply}
use Rattle.pq_types.specs.Asked.{Answer}
use Rattle.pq_types.specs.declared.answer.Answer.TheVariants.{Entered, BookFull, NoMemory, Refused}
use Rattle.pq_types.specs.declared.answer.Refusal.TheVariants.{Shut, Unarchived, Full}
use Rattle.pq_types.specs.Asked.{Line}
use Rattle.pq_types.specs.Asked.{Operation}
use Rattle.pq_types.specs.Operation.{Asked, ByTicket, Shuts, Remove, Move}
use Rattle.pq_types.specs.Queue.{IsPush}
use Rattle.pq_types.specs.Entry.{Entry, item_of, entries_after, reply_by}

-- the journal line of this place, serial, operation and reply
abbrev pub line_of : ℕ → ℕ → Operation → Reply → Line
line_of place serial operation reply = record { place = place; serial = serial; operation = operation; reply = reply }

-- the journal line of this place, serial, request and reply
abbrev pub line : ℕ → ℕ → Request → Reply → Line
line place serial request reply = line_of place serial (Asked request) reply

-- the entries after these lines, of which the first has this number
abbrev pub entries_from : List Entry → ℕ → List Line → List Entry
entries_from es number [] = es
entries_from es number (l ∷ ls) = entries_from (entries_after es number l.operation) (number + 1) ls

-- the entries that a journal leaves: of each item in the queue the line that put it in
abbrev pub entries_of : List Line → List Entry
entries_of lines = entries_from [] 1 lines

-- the content that the journal leaves on the empty queue
abbrev pub left : List Line → List Item
left lines = map item_of (entries_of lines)

-- each line has the reply of the one-thread queue, from these entries and this number on
abbrev pub IsLegalFrom : List Entry → ℕ → List Line → Type 0
IsLegalFrom es number [] = Unit {0}
IsLegalFrom es number (l ∷ ls) = (l.reply ≡ reply_by es l.operation) × IsLegalFrom (entries_after es number l.operation) (number + 1) ls

-- a legal history: each line has the reply that the one-thread queue gives there
abbrev pub IsLegal : List Line → Type 0
IsLegal lines = IsLegalFrom [] 1 lines

-- the serials of each place rise strictly, so no post stands there twice
abbrev pub SerialsRise : List Line → Type 0
SerialsRise [] = Unit {0}
SerialsRise (l ∷ ls) = AllByRecursion (λ m. m.place ≡ l.place → l.serial < m.serial) ls × SerialsRise ls

-- the greatest serial of a line of this place, or 0 where the place has no line
abbrev pub last_serial : ℕ → List Line → ℕ
last_serial place [] = 0
last_serial place (l ∷ ls) = max (if l.place == place then l.serial else 0) (last_serial place ls)

-- an operation that wants room for an item
abbrev pub PutsIn : Operation → Type 0
PutsIn (Asked request) = IsPush request
PutsIn (ByTicket (Remove i)) = ⊥
PutsIn (ByTicket (Move i priority)) = Unit {0}
PutsIn Shuts = ⊥

-- the journal after something is answered: what is entered has a line at the end, anything else has none
abbrev pub journal_by : List Line → ℕ → ℕ → Operation → Answer → List Line
journal_by lines place serial operation (Entered number reply) = lines ++ line_of place serial operation reply ∷ []
journal_by lines place serial operation BookFull = lines
journal_by lines place serial operation NoMemory = lines
journal_by lines place serial operation (Refused refusal) = lines

-- the journal after a request is answered
abbrev pub journal_after : List Line → ℕ → ℕ → Request → Answer → List Line
journal_after lines place serial request answer = journal_by lines place serial (Asked request) answer

-- an operation after which one item more waits: a push
abbrev pub Adds : Operation → Type 0
Adds (Asked request) = IsPush request
Adds (ByTicket ticketed) = ⊥
Adds Shuts = ⊥

-- an operation that a shut queue refuses: a push, and another shut
abbrev pub EndsAtShut : Operation → Type 0
EndsAtShut (Asked request) = IsPush request
EndsAtShut (ByTicket ticketed) = ⊥
EndsAtShut Shuts = Unit {0}

-- this line shuts the queue
abbrev pub shuts : Operation → Bool
shuts (Asked request) = false
shuts (ByTicket ticketed) = false
shuts Shuts = true

-- the queue is shut: the journal has a shut line
abbrev pub is_shut : List Line → Bool
is_shut [] = false
is_shut (l ∷ ls) = shuts l.operation || is_shut ls

-- after a shut line stands no push, and no other shut
abbrev pub HeedsShut : List Line → Type 0
HeedsShut [] = Unit {0}
HeedsShut (l ∷ ls) = (shuts l.operation ≡ true → AllByRecursion (λ m. EndsAtShut m.operation → ⊥) ls) × HeedsShut ls

-- A queue's limits: for how many lines its journal has room, and how many items pushes may leave, which are
-- constants; and how many lines the journal may have until more are archived.
pub record Limits : Type 0 where
  pub room : ℕ
  pub bound : ℕ
  pub allowed : ℕ

-- no shut refuses the operation
abbrev pub IsHeard : List Line → Operation → Type 0
IsHeard lines operation = EndsAtShut operation → is_shut lines ≡ false

-- Nothing but memory refuses the operation: the journal has room for a line; its line makes memory forget none that is not
-- archived; no shut refuses it; and a push finds fewer items than the bound.
pub record IsAdmitted (limits : Limits) (lines : List Line) (operation : Operation) : Type 0 where
  pub space : length lines < limits.room
  pub kept : length lines < limits.allowed
  pub heard : IsHeard lines operation
  pub below : Adds operation → length (left lines) < limits.bound

-- What an operation may be answered where the journal has these lines. By the first that is true: BookFull where the journal
-- is full; Shut where a shut refuses the operation; Unarchived where its line would make memory forget one that is not archived;
-- to a push, Full where as many items wait as the bound. Else the next line's number and the one-thread queue's reply, or,
-- to a push or a move alone, NoMemory.
abbrev pub MayDo : Limits → List Line → Operation → Answer → Type 0
MayDo limits lines operation (Entered number reply) =
    IsAdmitted limits lines operation × (number ≡ length lines + 1) × (reply ≡ reply_by (entries_of lines) operation)
MayDo limits lines operation BookFull = length lines ≡ limits.room
MayDo limits lines operation NoMemory = IsAdmitted limits lines operation × PutsIn operation
MayDo limits lines operation (Refused Shut) = (length lines < limits.room) × EndsAtShut operation × (is_shut lines ≡ true)
MayDo limits lines operation (Refused Unarchived) =
    (length lines < limits.room) × (limits.allowed ≤ length lines) × IsHeard lines operation
MayDo limits lines operation (Refused Full) =
    (length lines < limits.room) × (length lines < limits.allowed) × Adds operation × (limits.bound ≤ length (left lines))
    × IsHeard lines operation

-- what a request may be answered
abbrev pub MayAnswer : Limits → List Line → Request → Answer → Type 0
MayAnswer limits lines request answer = MayDo limits lines (Asked request) answer

-- what a removal of what this line put in may be answered
abbrev pub MayRemove : Limits → List Line → ℕ → Answer → Type 0
MayRemove limits lines i answer = MayDo limits lines (ByTicket (Remove i)) answer

-- what a move to this priority of what this line put in may be answered
abbrev pub MayMove : Limits → List Line → ℕ → ℕ → Answer → Type 0
MayMove limits lines i priority answer = MayDo limits lines (ByTicket (Move i priority)) answer

-- the line is a request, and no use of a ticket
abbrev pub IsAsked : Operation → Type 0
IsAsked (Asked q) = Unit {0}
IsAsked (ByTicket ticketed) = ⊥
IsAsked Shuts = ⊥

abbrev pub AreAllAsked : List Line → Type 0
AreAllAsked lines = AllByRecursion (λ l. IsAsked l.operation) lines

-- the requests of the lines, in their order
abbrev pub asked_before : Operation → List Request → List Request
asked_before (Asked q) qs = q ∷ qs
asked_before (ByTicket ticketed) qs = qs
asked_before Shuts qs = qs

abbrev pub requests_of : List Line → List Request
requests_of [] = []
requests_of (l ∷ ls) = asked_before l.operation (requests_of ls)

-- and their replies
abbrev pub replies_of : List Line → List Reply
replies_of [] = []
replies_of (l ∷ ls) = l.reply ∷ replies_of ls
