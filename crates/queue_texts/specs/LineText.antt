-- The text of a journal line, and what a text is read as.
use Rattle.std.specs.Prelude.{◌≡◌, ℕ, ◌+◌, ◌<◌, ◌^◌, Bool, List, [], ◌∷◌, ◌++◌, codes, decimal, Option}
use Rattle.std.specs.Io.KnownBytes.{Appends}
use Rattle.pq_types.specs.Asked.{Request}
use Rattle.pq_types.specs.declared.request.Request.TheVariants.{Push, Pop, Least}
use Rattle.pq_types.specs.Asked.{Reply}
use Rattle.pq_types.specs.declared.answer.Reply.TheVariants.{Pushed, Got, Empty, Least as LeastIs}
use Rattle.pq_types.specs.Asked.{Line}
use Rattle.pq_types.specs.Asked.{Operation}
use Rattle.pq_types.specs.Operation.{Asked, ByTicket, Shuts, Remove, Move}
use Rattle.queue_texts.specs.declared.line_reading.LineError.{LineError}
use Rattle.queue_texts.specs.declared.line_reading.LineError.TheVariants.{UnknownWord, OutOfRange, NoSuchReply}
use Rattle.queue_texts.specs.declared.line_reading.NumberedLine.{NumberedLine}
use Rattle.queue_texts.specs.ItemText.{space, item_text, SpellsNumber}
use Rattle.pq_types.specs.Item.{bound_of}
use Rattle.pq_types.specs.Queue.{IsProperRequestOf, IsProperReplyOf}
use Rattle.pq_types.specs.Mail.{IsLineNumber, IsSerial}
use Rattle.queue_texts.specs.Text.{reply_text}

-- what a request says
abbrev pub request_text : Request → List ℕ
request_text (Push item) = codes "push " ++ item_text item
request_text Pop = codes "pop"
request_text Least = codes "least"

-- what an operation says: its request; or which ticket's item it removes, or moves and to which priority; or that it shuts
-- the queue
abbrev pub operation_text : Operation → List ℕ
operation_text (Asked request) = request_text request
operation_text (ByTicket (Remove ticket)) = codes "remove " ++ decimal ticket
operation_text (ByTicket (Move ticket priority)) = codes "move " ++ decimal ticket ++ codes " " ++ decimal priority
operation_text Shuts = codes "shut"

-- the reply, as it stands behind the operation: a space before it; after a shut stands none
abbrev pub told_text : Operation → Reply → List ℕ
told_text (Asked request) reply = codes " " ++ reply_text reply
told_text (ByTicket ticketed) reply = codes " " ++ reply_text reply
told_text Shuts reply = []

-- the text of a journal line, without a line feed: its number, place, serial, operation and reply,
-- with one space between; a shut has no reply
abbrev pub line_text : ℕ → Line → List ℕ
line_text number l =
    decimal number ++ codes " " ++ decimal l.place ++ codes " " ++ decimal l.serial
    ++ codes " " ++ operation_text l.operation ++ told_text l.operation l.reply

-- the text of lines, of which the first has this number; a line feed ends each
abbrev pub journal_text : ℕ → List Line → List ℕ
journal_text number [] = []
journal_text number (l ∷ ls) = line_text number l ++ codes "\n" ++ journal_text (number + 1) ls

-- the text begins with the digits of this number and a space, and these bytes follow
abbrev pub Leads : List ℕ → ℕ → List ℕ → Type 0
Leads text n rest = (digits : List ℕ) × (text ≡ digits ++ space ∷ rest) × SpellsNumber digits n

-- the text is two numbers with one space between
abbrev pub SpellsBoth : List ℕ → ℕ → ℕ → Type 0
SpellsBoth text m n = (rest : List ℕ) × Leads text m rest × SpellsNumber rest n

-- the text begins with two numbers, a space behind each, and these bytes follow
abbrev pub LeadsBoth : List ℕ → ℕ → ℕ → List ℕ → Type 0
LeadsBoth text m n rest = (between : List ℕ) × Leads text m between × Leads between n rest

-- the text says this reply
abbrev pub SpellsReply : List ℕ → Reply → Type 0
SpellsReply text Pushed = text ≡ codes "pushed"
SpellsReply text (Got x) = (item : List ℕ) × (text ≡ codes "got " ++ item) × SpellsBoth item x.priority x.value
SpellsReply text (LeastIs x) = (item : List ℕ) × (text ≡ codes "least " ++ item) × SpellsBoth item x.priority x.value
SpellsReply text Empty = text ≡ codes "empty"

-- the text says this request, and these bytes follow a space
abbrev pub AsksFirst : List ℕ → Request → List ℕ → Type 0
AsksFirst text (Push x) rest = (item : List ℕ) × (text ≡ codes "push " ++ item) × LeadsBoth item x.priority x.value rest
AsksFirst text Pop rest = text ≡ codes "pop " ++ rest
AsksFirst text Least rest = text ≡ codes "least " ++ rest

-- the text says that the item of this ticket is removed, and these bytes follow a space
abbrev pub RemovesFirst : List ℕ → ℕ → List ℕ → Type 0
RemovesFirst text ticket rest = (number : List ℕ) × (text ≡ codes "remove " ++ number) × Leads number ticket rest

-- the text says that the item of this ticket is moved to this priority, and these bytes follow a space
abbrev pub MovesFirst : List ℕ → ℕ → ℕ → List ℕ → Type 0
MovesFirst text ticket priority rest =
    (numbers : List ℕ) × (text ≡ codes "move " ++ numbers) × LeadsBoth numbers ticket priority rest

-- the text says this operation, and these bytes follow a space; a shut is all of it, and none follow
abbrev pub SaysFirst : List ℕ → Operation → List ℕ → Type 0
SaysFirst text (Asked request) rest = AsksFirst text request rest
SaysFirst text (ByTicket (Remove ticket)) rest = RemovesFirst text ticket rest
SaysFirst text (ByTicket (Move ticket priority)) rest = MovesFirst text ticket priority rest
SaysFirst text Shuts rest = (text ≡ codes "shut") × (rest ≡ [])

-- the text says this reply to the operation; that to a shut is Empty, and needs no text
abbrev pub SpellsReplyTo : Operation → List ℕ → Reply → Type 0
SpellsReplyTo (Asked request) text reply = SpellsReply text reply
SpellsReplyTo (ByTicket ticketed) text reply = SpellsReply text reply
SpellsReplyTo Shuts text reply = (text ≡ []) × (reply ≡ Empty)

-- the text begins with a number, a place and a serial, a space behind each
pub record LeadsAll (text : List ℕ) (number place serial : ℕ) (rest : List ℕ) : Type 0 where
  pub from_place : List ℕ
  pub from_serial : List ℕ
  pub number_is : Leads text number from_place
  pub place_is : Leads from_place place from_serial
  pub serial_is : Leads from_serial serial rest

-- the text says this line under this number, whatever the size of its numbers, and whether or not
-- such an operation has such a reply
pub record SpellsLine (text : List ℕ) (number : ℕ) (l : Line) : Type 0 where
  pub from_operation : List ℕ
  pub from_reply : List ℕ
  pub head : LeadsAll text number l.place l.serial from_operation
  pub operation_is : SaysFirst from_operation l.operation from_reply
  pub reply_is : SpellsReplyTo l.operation from_reply l.reply

-- an operation whose item, or whose new priority, is in its range, and whose ticket has 64 bits
abbrev pub IsOperationInRange : Bool → Operation → Type 0
IsOperationInRange wide (Asked request) = IsProperRequestOf wide request
IsOperationInRange wide (ByTicket (Remove ticket)) = ticket < 2 ^ 64
IsOperationInRange wide (ByTicket (Move ticket priority)) = (ticket < 2 ^ 64) × (priority < bound_of wide)
IsOperationInRange wide Shuts = Unit {0}

-- a line number and a line whose place, serial, ticket and items, wide or narrow, are in their ranges
pub record IsInRange (wide : Bool) (number : ℕ) (l : Line) : Type 0 where
  pub number_range : IsLineNumber number
  pub place_range : l.place < 65536
  pub serial_range : IsSerial l.serial
  pub operation_range : IsOperationInRange wide l.operation
  pub reply_range : IsProperReplyOf wide l.reply

-- such a request may have such a reply
abbrev pub MayReply : Request → Reply → Type 0
MayReply (Push x) Pushed = Unit {0}
MayReply (Push x) (Got y) = ⊥
MayReply (Push x) (LeastIs y) = ⊥
MayReply (Push x) Empty = ⊥
MayReply Pop Pushed = ⊥
MayReply Pop (Got y) = Unit {0}
MayReply Pop (LeastIs y) = ⊥
MayReply Pop Empty = Unit {0}
MayReply Least Pushed = ⊥
MayReply Least (Got y) = ⊥
MayReply Least (LeastIs y) = Unit {0}
MayReply Least Empty = Unit {0}

-- the line with its number
abbrev pub numbered : {P : Type 0} → ℕ → Line → NumberedLine P
numbered number l = record { number = number; line = l }

-- such an operation may have such a reply: a removal and a move are replied to as a pop is, and a shut takes nothing out
abbrev pub MayReplyTo : Operation → Reply → Type 0
MayReplyTo (Asked request) reply = MayReply request reply
MayReplyTo (ByTicket ticketed) reply = MayReply Pop reply
MayReplyTo Shuts reply = reply ≡ Empty

-- the line's operation may have its reply
abbrev pub HasReplyOfItsKind : Line → Type 0
HasReplyOfItsKind l = MayReplyTo l.operation l.reply

-- the text is that of a journal line: in range, with a reply that such an operation may have
abbrev pub IsLineText : Bool → List ℕ → ℕ → Line → Type 0
IsLineText wide text number l = SpellsLine text number l × IsInRange wide number l × HasReplyOfItsKind l

-- Why a text is no journal line: it spells none; or one with a number out of its range; or one
-- with a reply that no such operation has.
abbrev pub IsNoLineFor : Bool → List ℕ → LineError → Type 0
IsNoLineFor wide text UnknownWord = (number : ℕ) (l : Line) → ¬ (SpellsLine text number l)
IsNoLineFor wide text OutOfRange = (number : ℕ) × (l : Line) × SpellsLine text number l × ¬ (IsInRange wide number l)
IsNoLineFor wide text NoSuchReply =
    (number : ℕ) × (l : Line) × SpellsLine text number l × IsInRange wide number l × ¬ (HasReplyOfItsKind l)

-- the number of each refusal
abbrev pub line_code : LineError → ℕ
line_code UnknownWord = 32
line_code OutOfRange = 33
line_code NoSuchReply = 34

-- What was to be written, and these bytes behind it, are now in part with the writer and in part
-- still to be written.
abbrev pub IsWritten : Option (List ℕ) → List ℕ → List ℕ → Option (List ℕ) → List ℕ → Type 0
IsWritten old page text new page' = (out : List ℕ) × Appends old new out × (page ++ text ≡ out ++ page')
