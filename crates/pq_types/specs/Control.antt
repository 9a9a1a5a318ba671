-- A publication record in two halves: a control, which says what stands there, and an item cell,
-- which counts only where the control says so.
use Rattle.std.specs.Prelude.{◌≡◌, ℕ, Bool, true, false, Option, Some, None}
use Rattle.pq_types.specs.Item.{Item}
use Rattle.pq_types.specs.Asked.{Request}
use Rattle.pq_types.specs.declared.request.Request.TheVariants as request
use Rattle.pq_types.specs.Asked.{Reply}
use Rattle.pq_types.specs.declared.answer.Reply.TheVariants as reply
use Rattle.pq_types.specs.Asked.{Answer}
use Rattle.pq_types.specs.declared.answer.Answer.TheVariants as answer
use Rattle.pq_types.specs.Asked.{Mail}
use Rattle.pq_types.specs.declared.mail.Mail.TheVariants as mail
use Rattle.pq_types.specs.declared.control.Kind.{Kind}
use Rattle.pq_types.specs.declared.control.Kind.TheVariants as kind
use Rattle.pq_types.specs.declared.control.Outcome.{Outcome}
use Rattle.pq_types.specs.declared.control.Outcome.TheVariants as outcome
use Rattle.pq_types.specs.declared.control.Notice.{Notice}
use Rattle.pq_types.specs.declared.control.Notice.TheVariants as notice
use Rattle.pq_types.specs.declared.control.Control.{Control}
use Rattle.pq_types.specs.declared.control.Control.TheVariants.{Nothing, Posted, Answered}

-- a request without its item, the request of a kind with this item, and the item that a request has
abbrev pub kind_of : Request → Kind
kind_of (request.Push x) = kind.Push
kind_of request.Pop = kind.Pop
kind_of request.Least = kind.Least

abbrev pub request_with : Kind → Item → Request
request_with kind.Push x = request.Push x
request_with kind.Pop x = request.Pop
request_with kind.Least x = request.Least

abbrev pub request_item : Request → Option Item
request_item (request.Push x) = Some x
request_item request.Pop = None
request_item request.Least = None

-- the same of replies
abbrev pub outcome_of : Reply → Outcome
outcome_of reply.Pushed = outcome.Pushed
outcome_of (reply.Got x) = outcome.Got
outcome_of (reply.Least x) = outcome.Least
outcome_of reply.Empty = outcome.Empty

abbrev pub reply_with : Outcome → Item → Reply
reply_with outcome.Pushed x = reply.Pushed
reply_with outcome.Got x = reply.Got x
reply_with outcome.Least x = reply.Least x
reply_with outcome.Empty x = reply.Empty

abbrev pub reply_item : Reply → Option Item
reply_item reply.Pushed = None
reply_item (reply.Got x) = Some x
reply_item (reply.Least x) = Some x
reply_item reply.Empty = None

-- the same of answers
abbrev pub notice_of : Answer → Notice
notice_of (answer.Entered line r) = notice.Entered line (outcome_of r)
notice_of answer.BookFull = notice.BookFull
notice_of answer.NoMemory = notice.NoMemory
notice_of (answer.Refused refusal) = notice.Refused refusal

abbrev pub answer_with : Notice → Item → Answer
answer_with (notice.Entered line o) x = answer.Entered line (reply_with o x)
answer_with notice.BookFull x = answer.BookFull
answer_with notice.NoMemory x = answer.NoMemory
answer_with (notice.Refused refusal) x = answer.Refused refusal

abbrev pub answer_item : Answer → Option Item
answer_item (answer.Entered line r) = reply_item r
answer_item answer.BookFull = None
answer_item answer.NoMemory = None
answer_item (answer.Refused refusal) = None

-- the control of a posted request with this serial, and of an answer
abbrev pub posted : ℕ → Request → Control
posted serial q = Posted serial (kind_of q)

abbrev pub answered : Answer → Control
answered a = Answered (notice_of a)

-- the control of a mail, the mail that a control and an item cell are, and the item that a mail has
abbrev pub control_of : Mail → Control
control_of mail.Nothing = Nothing
control_of (mail.Posted serial q) = posted serial q
control_of (mail.Answered a) = answered a

abbrev pub mail_with : Control → Item → Mail
mail_with Nothing x = mail.Nothing
mail_with (Posted serial k) x = mail.Posted serial (request_with k x)
mail_with (Answered n) x = mail.Answered (answer_with n x)

abbrev pub mail_item : Mail → Option Item
mail_item mail.Nothing = None
mail_item (mail.Posted serial q) = request_item q
mail_item (mail.Answered a) = answer_item a

-- where there is an item, the cell has it
abbrev pub Carries : Option Item → Item → Type 0
Carries None cell = Unit {0}
Carries (Some x) cell = cell ≡ x

-- a request stands posted
abbrev pub is_posted : Control → Bool
is_posted Nothing = false
is_posted (Posted serial k) = true
is_posted (Answered n) = false

-- an answer stands there
abbrev pub is_answer : Control → Bool
is_answer Nothing = false
is_answer (Posted serial k) = false
is_answer (Answered n) = true

-- the item cell counts: for a posted push, and for an answer that tells an item
abbrev pub kind_has_item : Kind → Bool
kind_has_item kind.Push = true
kind_has_item kind.Pop = false
kind_has_item kind.Least = false

abbrev pub outcome_has_item : Outcome → Bool
outcome_has_item outcome.Pushed = false
outcome_has_item outcome.Got = true
outcome_has_item outcome.Least = true
outcome_has_item outcome.Empty = false

abbrev pub notice_has_item : Notice → Bool
notice_has_item (notice.Entered line o) = outcome_has_item o
notice_has_item notice.BookFull = false
notice_has_item notice.NoMemory = false
notice_has_item (notice.Refused refusal) = false

abbrev pub has_item : Control → Bool
has_item Nothing = false
has_item (Posted serial k) = kind_has_item k
has_item (Answered n) = notice_has_item n
