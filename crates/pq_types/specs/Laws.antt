-- What the laws about journals and contents say, for whoever builds on them (src/laws.rt proves
-- them).
use Rattle.std.specs.Prelude.{◌≡◌, ℕ, ◌+◌, ◌^◌, ◌<◌, ◌≤◌, max, Bool, if◌then◌else◌, ◌==◌, List, [], ◌∷◌, ◌++◌, length, map, Option, Some, None, ◌↔◌, ◌||◌, true, false}
use Rattle.std.specs.List.{AllByRecursion}
use Rattle.pq_types.specs.Item.{Item}
use Rattle.pq_types.specs.Asked.{Request, Reply, Operation, Answer}
use Rattle.pq_types.specs.declared.answer.Answer.TheVariants.{Entered, BookFull, NoMemory, Refused}
use Rattle.pq_types.specs.Asked.{Line}
use Rattle.pq_types.specs.declared.control.Control.{Control}
use Rattle.pq_types.specs.Item.{IsItem, item_word}
use Rattle.pq_types.specs.Mail.{IsProperControl, control_word}
use Rattle.pq_types.specs.Queue.{AreItemsOf, IsAscending, IsProperRequestOf, IsProperReplyOf, content_after, reply_to}
use Rattle.pq_types.specs.Operation.{Asked, ByTicket, Shuts, Ticketed, ticket_of}
use Rattle.pq_types.specs.Queue.{replies_from, content_after_all}
use Rattle.pq_types.specs.Entry.{Entry, item_of, item_at, entries_after, reply_by, IsProperOperationOf}
use Rattle.pq_types.specs.History.{left, entries_of, IsLegal, SerialsRise, last_serial, AreAllAsked, requests_of, replies_of}
use Rattle.pq_types.specs.History.{shuts, is_shut, HeedsShut, EndsAtShut, IsHeard, PutsIn, Limits, MayDo}
use Rattle.pq_types.specs.Outs.{StandsAt}

-- one more line's request is carried out on what the others leave
abbrev pub LeavesOneMore : Type 0
LeavesOneMore = (lines : List Line) (line : Line) (request : Request) → line.operation ≡ Asked request
    → left (lines ++ line ∷ []) ≡ content_after (left lines) request

-- and whatever it says was done, on the entries
abbrev pub EntersOneMore : Type 0
EntersOneMore = (lines : List Line) (line : Line) → entries_of (lines ++ line ∷ []) ≡ entries_after (entries_of lines) (length lines + 1) line.operation

-- a legal history stays one with a line that has the queue's reply
abbrev pub StaysLegal : Type 0
StaysLegal = (lines : List Line) (line : Line) → IsLegal lines → line.reply ≡ reply_by (entries_of lines) line.operation
    → IsLegal (lines ++ line ∷ [])

-- A journal of requests alone leaves what these leave one after another, and it is a legal history
-- exactly where its replies are those of the one-thread queue to them.
abbrev pub WithoutTickets : Type 0
WithoutTickets = (lines : List Line) → AreAllAsked lines
    → (left lines ≡ content_after_all [] (requests_of lines))
    × (IsLegal lines ↔ (replies_of lines ≡ replies_from [] (requests_of lines)))

-- where no item waits under a ticket, its use changes nothing
abbrev pub VainChangeNothing : Type 0
VainChangeNothing = (entries : List Entry) (number : ℕ) (ticketed : Ticketed) → item_at (ticket_of ticketed) entries ≡ None
    → entries_after entries number (ByTicket ticketed) ≡ entries

-- serials still rise with a line whose serial is above each of its place
abbrev pub StillRises : Type 0
StillRises =
    (lines : List Line) (line : Line) → SerialsRise lines
    → AllByRecursion (λ m. line.place ≡ m.place → m.serial < line.serial) lines
    → SerialsRise (lines ++ line ∷ [])

-- the greatest serial of a place is that before, or the new line's
abbrev pub SerialOfOneMore : Type 0
SerialOfOneMore =
    (place : ℕ) (lines : List Line) (line : Line)
    → last_serial place (lines ++ line ∷ []) ≡ max (last_serial place lines) (if line.place == place then line.serial else 0)

-- the queue has no more items than its journal has lines
abbrev pub NoMoreItemsThanLines : Type 0
NoMoreItemsThanLines = (lines : List Line) → length (left lines) ≤ length lines

-- what a journal leaves is a content: no item's priority is above that of one behind it
abbrev pub LeavesAscending : Type 0
LeavesAscending = (lines : List Line) → IsAscending (left lines)

-- a proper request keeps the items of a content in their range
abbrev pub ItemsStayInRange : Type 0
ItemsStayInRange = (wide : Bool) (content : List Item) (request : Request) → IsProperRequestOf wide request
    → AreItemsOf wide content → AreItemsOf wide (content_after content request)

-- and so are the replies
abbrev pub RepliesAreProper : Type 0
RepliesAreProper = (wide : Bool) (content : List Item) (request : Request) → AreItemsOf wide content
    → IsProperReplyOf wide (reply_to content request)

-- what is done keeps the items of entries in their range, where a request's item is in it, and a move's priority
abbrev pub EntriesStayInRange : Type 0
EntriesStayInRange =
    (wide : Bool) (entries : List Entry) (number : ℕ) (operation : Operation) → IsProperOperationOf wide operation
    → AreItemsOf wide (map item_of entries) → AreItemsOf wide (map item_of (entries_after entries number operation))

-- and so the replies to it
abbrev pub RepliesByAreProper : Type 0
RepliesByAreProper = (wide : Bool) (entries : List Entry) (operation : Operation) → AreItemsOf wide (map item_of entries)
    → IsProperReplyOf wide (reply_by entries operation)

-- a control has one word, and a word one control
abbrev pub ControlWordsDiffer : Type 0
ControlWordsDiffer = (c d : Control) → IsProperControl c → IsProperControl d → control_word c ≡ control_word d → c ≡ d

-- an item has one word, and a word of 64 bits one item
abbrev pub ItemWordsDiffer : Type 0
ItemWordsDiffer = (x y : Item) → IsItem x → IsItem y → item_word x ≡ item_word y → x ≡ y

-- the words of a proper control and of an item have 64 bits
abbrev pub WordsFit : Type 0
WordsFit = ((c : Control) → IsProperControl c → control_word c < 2 ^ 61) × ((x : Item) → IsItem x → item_word x < 2 ^ 64)

-- with a line more a journal is shut where it was before, or where that line shuts it
abbrev pub ShutByOneMore : Type 0
ShutByOneMore = (lines : List Line) (line : Line) → is_shut (lines ++ line ∷ []) ≡ (is_shut lines || shuts line.operation)

-- with a line more that no shut refuses a journal still heeds its shut line
abbrev pub StillHeeds : Type 0
StillHeeds = (lines : List Line) (line : Line) → HeedsShut lines → IsHeard lines line.operation → HeedsShut (lines ++ line ∷ [])

-- a shut line drops no item, and changes none
abbrev pub ShutLeavesAll : Type 0
ShutLeavesAll = (lines : List Line) (line : Line) → line.operation ≡ Shuts → entries_of (lines ++ line ∷ []) ≡ entries_of lines

-- after a shut line stands no push, and no other shut
abbrev pub NothingBehindShut : Type 0
NothingBehindShut = (journal : List Line) (k n : ℕ) (shut line : Line) → HeedsShut journal → StandsAt journal k shut → shut.operation ≡ Shuts
    → StandsAt journal n line → k < n → EndsAtShut line.operation → ⊥

-- what refuses an operation, if not memory alone does
abbrev pub bar_of : Answer → Option Answer
bar_of (Entered number reply) = None
bar_of BookFull = Some BookFull
bar_of NoMemory = None
bar_of (Refused refusal) = Some (Refused refusal)

-- Limits and journal decide whether an operation is refused, and why, but for memory.
abbrev pub AnswersAgree : Type 0
AnswersAgree = (limits : Limits) (lines : List Line) (operation : Operation) (a b : Answer)
    → MayDo limits lines operation a → MayDo limits lines operation b → bar_of a ≡ bar_of b

-- two numbers and replies that an operation may get are the same
abbrev pub EntriesAgree : Type 0
EntriesAgree = (limits : Limits) (lines : List Line) (operation : Operation) (m n : ℕ) (r s : Reply)
    → MayDo limits lines operation (Entered m r) → MayDo limits lines operation (Entered n s) → (m ≡ n) × (r ≡ s)

-- the limits of a queue without a bound, which forgets rather than refuses: a journal leaves no more items
-- than it has lines
abbrev pub plain : ℕ → Limits
plain room = record { room = room; bound = room + 1; allowed = room }

-- what the Book of such a queue may answer while it is not shut: BookFull where it is full, else the next line's number and the
-- one-thread queue's reply, or, to a push or a move alone, NoMemory
abbrev pub MayDoPlainly : ℕ → List Line → Operation → Answer → Type 0
MayDoPlainly room lines operation (Entered number reply) =
    (length lines < room) × (number ≡ length lines + 1) × (reply ≡ reply_by (entries_of lines) operation)
MayDoPlainly room lines operation BookFull = length lines ≡ room
MayDoPlainly room lines operation NoMemory = (length lines < room) × PutsIn operation
MayDoPlainly room lines operation (Refused refusal) = ⊥

abbrev pub PlainRefuseNothing : Type 0
PlainRefuseNothing = (room : ℕ) (lines : List Line) (operation : Operation) (answer : Answer) → is_shut lines ≡ false
    → MayDo (plain room) lines operation answer ↔ MayDoPlainly room lines operation answer
