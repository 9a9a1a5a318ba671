-- What a C program is told, and what its numbers mean.
use Rattle.std.specs.Prelude.{◌≡◌, ℕ, ◌≤◌, ◌==◌, if◌then◌else◌, Option, Some, None}
use Rattle.pq_types.specs.Item.{Item}
use Rattle.pq_types.specs.Asked.{Request, Operation}
use Rattle.pq_types.specs.Operation.{Asked, ByTicket, Remove, Move, Shuts}
use Rattle.pq_types.specs.declared.request.Request.TheVariants.{Push, Pop, Least}
use Rattle.pq_types.specs.Asked.{Reply}
use Rattle.pq_types.specs.declared.answer.Reply.TheVariants.{Pushed, Got, Empty, Least as LeastIs}
use Rattle.pq_types.specs.Asked.{Answer}
use Rattle.pq_types.specs.declared.answer.Answer.TheVariants.{Entered, BookFull, NoMemory, Refused}
use Rattle.pq_types.specs.declared.answer.Refusal.{Refusal}
use Rattle.pq_types.specs.declared.answer.Refusal.TheVariants.{Shut, Unarchived, Full}
use Rattle.pq_types.specs.Asked.{Line}
use Rattle.pq_types.specs.Item.{item}
use Rattle.pq_types.specs.Control.{request_item, reply_item}
use Rattle.queue_c.specs.declared.plain.PlainItem.{PlainItem}
use Rattle.queue_c.specs.declared.plain.PlainAnswer.{PlainAnswer}
use Rattle.queue_c.specs.declared.plain.PlainLine.{PlainLine}

-- the request of this number that a C program may post, with this item where it is a push
abbrev pub request_of : ℕ → Item → Option Request
request_of number x =
    if number == 0 then Some (Push x) else if number == 1 then Some Pop else None

-- the number of a request
abbrev pub request_number : Request → ℕ
request_number (Push x) = 0
request_number Pop = 1
request_number Least = 2

-- the number of an operation
abbrev pub operation_number : Operation → ℕ
operation_number (Asked request) = request_number request
operation_number (ByTicket (Remove ticket)) = 3
operation_number (ByTicket (Move ticket priority)) = 4
operation_number Shuts = 5

-- its item: of a move one of the new priority, and of value 0
abbrev pub operation_item : Operation → Option Item
operation_item (Asked request) = request_item request
operation_item (ByTicket (Remove ticket)) = None
operation_item (ByTicket (Move ticket priority)) = Some (item priority 0)
operation_item Shuts = None

-- its ticket, or 0
abbrev pub operation_ticket : Operation → ℕ
operation_ticket (Asked request) = 0
operation_ticket (ByTicket (Remove ticket)) = ticket
operation_ticket (ByTicket (Move ticket priority)) = ticket
operation_ticket Shuts = 0

-- the number of a reply
abbrev pub reply_number : Reply → ℕ
reply_number Pushed = 0
reply_number (Got x) = 1
reply_number (LeastIs x) = 2
reply_number Empty = 3

-- the item that is told, or zeros
abbrev pub or_zeros : Option Item → Item
or_zeros None = item 0 0
or_zeros (Some x) = x

-- the item for C
abbrev pub told_item : Item → PlainItem
told_item x = record { priority = x.priority; value = x.value }

-- the item that C hands over
abbrev pub plain_item : PlainItem → Item
plain_item x = item x.priority x.value

-- an answer of this kind, line and item, with this word on whether a wake is owed
abbrev pub told : ℕ → ℕ → ℕ → Item → PlainAnswer
told wake kind line x = record { kind = kind; owes_wake = wake; line = line; priority = x.priority; value = x.value }

-- the kind of an answer by which the queue's rules refuse
abbrev pub refusal_number : Refusal → ℕ
refusal_number Shut = 6
refusal_number Unarchived = 7
refusal_number Full = 8

-- the answer for C, with this word on whether a wake is owed
abbrev pub told_answer : ℕ → Answer → PlainAnswer
told_answer wake (Entered line reply) = told wake (reply_number reply) line (or_zeros (reply_item reply))
told_answer wake BookFull = told wake 4 0 (item 0 0)
told_answer wake NoMemory = told wake 5 0 (item 0 0)
told_answer wake (Refused why) = told wake (refusal_number why) 0 (item 0 0)

-- this is the answer for C, and says whether a wake is owed, by 0 or 1
abbrev pub Tells : PlainAnswer → Answer → Type 0
Tells told answer = (told ≡ told_answer told.owes_wake answer) × (told.owes_wake ≤ 1)

-- the line of a journal for C
abbrev pub told_line : Line → PlainLine
told_line l =
    record {
      serial = l.serial;
      place = l.place;
      request = operation_number l.operation;
      priority = (or_zeros (operation_item l.operation)).priority;
      value = (or_zeros (operation_item l.operation)).value;
      reply = reply_number l.reply;
      reply_priority = (or_zeros (reply_item l.reply)).priority;
      reply_value = (or_zeros (reply_item l.reply)).value;
      ticket = operation_ticket l.operation;
    }
