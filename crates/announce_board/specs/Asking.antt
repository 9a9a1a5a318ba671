-- What the calls of a pen that asks make of it.
use Rattle.std.specs.Prelude.{◌≡◌, ◌≢◌, ◌<◌, ◌≤◌, ℕ, ◌⊎◌, Bool, true, false, List, ◌++◌, Option, Some, None}
use Rattle.std.specs.List.{AllByRecursion}
use Rattle.pq_types.specs.Item.{Item}
use Rattle.pq_types.specs.Asked.{Request, Operation}
use Rattle.pq_types.specs.Operation.{Asked, request_of}
use Rattle.pq_types.specs.declared.request.Request.TheVariants.{Push, Pop, Least}
use Rattle.pq_types.specs.Asked.{Reply}
use Rattle.pq_types.specs.Asked.{Answer}
use Rattle.pq_types.specs.declared.answer.Answer.TheVariants.{Entered, BookFull, NoMemory, Refused}
use Rattle.pq_types.specs.declared.control.Kind.{Kind}
use Rattle.pq_types.specs.declared.control.Notice.{Notice}
use Rattle.pq_types.specs.declared.control.Control.{Control}
use Rattle.pq_types.specs.declared.control.Control.TheVariants.{Nothing, Posted, Answered}
use Rattle.pq_types.specs.History.{PutsIn, Adds, EndsAtShut}
use Rattle.pq_types.specs.declared.answer.Refusal.{Refusal}
use Rattle.pq_types.specs.declared.answer.Refusal.TheVariants.{Shut, Unarchived, Full}
use Rattle.pq_types.specs.Control.{request_item, answer_with, notice_has_item, posted, is_answer}
use Rattle.pq_types.specs.Mail.{IsLineNumber}
use Rattle.desk_core.specs.Beyond.{IsBeyond}
use Rattle.desk_core.specs.Calls.{gained}
use Rattle.desk_core.specs.Knows.{IsReplyTo}
use Rattle.desk_core.specs.Pen.{IsKept, after_post, after_look}
use Rattle.desk_core.specs.declared.model.Call.{Call}
use Rattle.desk_core.specs.declared.model.Standing.{Standing}
use Rattle.desk_core.specs.declared.model.Standing.TheVariants.{Idle, Waiting}
use Rattle.desk_core.specs.declared.model.PenState.{PenState}
use Rattle.announce_board.specs.ItemWords.{drafted_by, taken_by}

-- the pen has drafted the item of this request, if it has one, of so many words
abbrev pub drafted : ℕ → PenState → Request → PenState
drafted words p (Push x) = drafted_by words p x
drafted words p Pop = p
drafted words p Least = p

-- the pen has posted this request, at this position of the history: of a push it has drafted the item first, a step for each
-- word
abbrev pub asked_by : ℕ → PenState → Request → ℕ → PenState
asked_by words p request now = after_post (drafted words p request) request now

-- an idle pen whose draft is the item of this request, if it has one
abbrev pub IsDrafted : Standing → Request → Type 0
IsDrafted standing request = (draft : Option Item) × (standing ≡ Idle draft) × IsKept (request_item request) draft

-- the pen waits for the answer to some request
abbrev pub Waits : Standing → Type 0
Waits standing = (request : Request) × (standing ≡ Waiting request)

-- what a control says: of an answer its notice, of a post its serial and kind
abbrev pub notice_in : Control → Option Notice
notice_in Nothing = None
notice_in (Posted serial kind) = None
notice_in (Answered notice) = Some notice

abbrev pub post_in : Control → Option (ℕ × Kind)
post_in Nothing = None
post_in (Posted serial kind) = Some (serial, kind)
post_in (Answered notice) = None

-- the answer that stands in a record
abbrev pub answer_in : Control → Item → Option Answer
answer_in Nothing cell = None
answer_in (Posted serial kind) cell = None
answer_in (Answered notice) cell = Some (answer_with notice cell)

-- the pen has taken the item of the answer that it has just seen
abbrev pub taken_if : ℕ → Bool → PenState → Request → Notice → Item → ℕ → PenState
taken_if words true p request notice cell now = taken_by words p request notice cell now
taken_if words false p request notice cell now = p

-- The pen has looked at its record, of this control and cell: at the control first, and then, where
-- that is an answer with an item, at the cell, a step for each word. Where it has found an answer, that is the act at this
-- position of the history.
abbrev pub seen_by : ℕ → PenState → Request → Control → Item → ℕ → PenState
seen_by words p request Nothing cell now = after_look p request Nothing now
seen_by words p request (Posted serial kind) cell now = after_look p request (Posted serial kind) now
seen_by words p request (Answered notice) cell now =
    taken_if words (notice_has_item notice) (after_look p request (Answered notice) now) request notice cell now

-- what a refusal by the queue's rules says of the operation
abbrev pub IsBarredBy : Operation → Refusal → Type 0
IsBarredBy operation Shut = EndsAtShut operation
IsBarredBy operation Unarchived = Unit {0}
IsBarredBy operation Full = Adds operation

-- The answer is one to such an operation, at a journal with room for so many lines: the number of an entered
-- one is not above the room. Only what wants room for an item is refused for want of memory: a push or a
-- move. The queue's rules refuse it only where they may refuse such an operation.
abbrev pub IsAnswerBy : ℕ → Operation → Answer → Type 0
IsAnswerBy room operation (Entered number reply) = IsLineNumber number × (number ≤ room) × IsReplyTo (request_of operation) reply
IsAnswerBy room operation BookFull = Unit {0}
IsAnswerBy room operation NoMemory = PutsIn operation
IsAnswerBy room operation (Refused why) = IsBarredBy operation why

-- the answer is one to such a request
abbrev pub IsAnswerTo : ℕ → Request → Answer → Type 0
IsAnswerTo room request answer = IsAnswerBy room (Asked request) answer

-- The pen was told that the journal is full. So it is and stays: whoever has it in hand, or its Book at the end, finds as many
-- lines there as there is room for (`Knows`).
abbrev pub IsFullFor : PenState → Type 0
IsFullFor p = p.told_full ≡ true

-- the line of this number is behind those of all these calls
abbrev pub IsAboveAll : ℕ → List Call → Type 0
IsAboveAll number calls = AllByRecursion (λ c. c.number < number) calls

-- A pen that waited for this request has looked at its record, where an item has so many words. It
-- found its own post or an answer; and where it knew the answer, that. None: it goes on waiting.
-- Some: it is idle, the answer is one to its request, and an entered one joins its calls, on a line
-- behind theirs, and behind all that the pen knew when it posted. BookFull was answered where the
-- journal was full; from then on no answer is an entered one.
pub record LooksBy (words : ℕ) (p : PenState) (result : Option Answer) (p' : PenState) : Type 0 where
  pub request : Request
  pub waited : p.standing ≡ Waiting request
  pub control : Control
  pub cell : Item
  pub found : (control ≡ posted p.posts request) ⊎ (is_answer control ≡ true)
  pub known : is_answer p.own ≡ true → control ≡ p.own
  pub answer : result ≡ answer_in control cell
  pub now : ℕ
  pub next : p' ≡ seen_by words p request control cell now
  pub waits : result ≡ None → (p'.standing ≡ p.standing) × (p'.mine ≡ p.mine)
  pub told : (a : Answer) → result ≡ Some a
      → IsAnswerTo p.room request a × (p'.standing ≡ Idle None) × (p'.mine ≡ p.mine ++ gained p.posts request a)
  pub behind : (number : ℕ) (reply : Reply) → result ≡ Some (Entered number reply) → IsAboveAll number p.mine
  pub beyond : (number : ℕ) (reply : Reply) → result ≡ Some (Entered number reply) → IsBeyond p number
  pub full : result ≡ Some BookFull → IsFullFor p'
  pub barred : IsFullFor p → (number : ℕ) (reply : Reply) → result ≢ Some (Entered number reply)

-- The same of narrow items, which have one word.
abbrev pub asked : PenState → Request → ℕ → PenState
asked = asked_by 1

abbrev pub seen : PenState → Request → Control → Item → ℕ → PenState
seen = seen_by 1

abbrev pub Looks : PenState → Option Answer → PenState → Type 0
Looks = LooksBy 1
