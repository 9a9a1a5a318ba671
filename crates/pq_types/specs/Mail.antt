-- The words of a publication record: which controls and mails are proper, and the control word of
-- each.
use Rattle.std.specs.Prelude.{Bool, false, ◌≡◌, ℕ, ◌+◌, ◌*◌, ◌<◌, ◌≤◌, ◌&&◌, nat_lt, nat_le, Option, Some, None, if◌then◌else◌}
use Rattle.pq_types.specs.Asked.{Answer}
use Rattle.pq_types.specs.declared.answer.Answer.TheVariants.{Entered, BookFull, NoMemory, Refused}
use Rattle.pq_types.specs.declared.answer.Refusal.{Refusal}
use Rattle.pq_types.specs.declared.answer.Refusal.TheVariants as refusal
use Rattle.pq_types.specs.Asked.{Mail}
use Rattle.pq_types.specs.declared.mail.Mail.TheVariants as mail
use Rattle.pq_types.specs.declared.control.Kind.{Kind}
use Rattle.pq_types.specs.declared.control.Kind.TheVariants as kind
use Rattle.pq_types.specs.declared.control.Outcome.{Outcome}
use Rattle.pq_types.specs.declared.control.Outcome.TheVariants as outcome
use Rattle.pq_types.specs.declared.control.Notice.{Notice}
use Rattle.pq_types.specs.declared.control.Notice.TheVariants as notice
use Rattle.pq_types.specs.declared.control.Control.{Control}
use Rattle.pq_types.specs.declared.control.Control.TheVariants.{Nothing, Posted, Answered}
use Rattle.pq_types.specs.declared.control.TheConstants.{NOTHING, PUSH_POSTED, POP_POSTED, LEAST_POSTED, PUSHED, GOT}
use Rattle.pq_types.specs.declared.control.TheConstants.{LEAST_TOLD, EMPTY, BOOK_FULL, NO_MEMORY, SHUT, FULL, UNARCHIVED, PHASES}
use Rattle.pq_types.specs.declared.journal.TheConstants.{MOST_LINES, GREATEST_SERIAL, GREATEST_NUMBER}
use Rattle.pq_types.specs.Item.{item_word}
use Rattle.pq_types.specs.Queue.{IsProperRequest, IsProperReply, IsProperReplyOf}
use Rattle.pq_types.specs.Item.{Item}
use Rattle.pq_types.specs.Control.{control_of, mail_item}

-- a count of posts at one place
abbrev pub IsSerial : ℕ → Type 0
IsSerial s = (0 < s) × (s ≤ GREATEST_NUMBER)

-- the number of a journal line
abbrev pub IsLineNumber : ℕ → Type 0
IsLineNumber l = (0 < l) × (l ≤ GREATEST_NUMBER)

-- an answer with a journal's line number and an item in the range
abbrev pub IsProperAnswerOf : Bool → Answer → Type 0
IsProperAnswerOf wide (Entered l r) = IsLineNumber l × IsProperReplyOf wide r
IsProperAnswerOf wide BookFull = Unit {0}
IsProperAnswerOf wide NoMemory = Unit {0}
IsProperAnswerOf wide (Refused refusal) = Unit {0}

abbrev pub IsProperAnswer : Answer → Type 0
IsProperAnswer = IsProperAnswerOf false

-- an answer of a short journal, which has no more than 1,048,576 lines
abbrev pub IsShortAnswer : Answer → Type 0
IsShortAnswer (Entered l r) = (0 < l) × (l ≤ MOST_LINES) × IsProperReply r
IsShortAnswer BookFull = Unit {0}
IsShortAnswer NoMemory = Unit {0}
IsShortAnswer (Refused refusal) = Unit {0}

-- a mail that has words: its serial, its line number and its item are in their ranges
abbrev pub IsProper : Mail → Type 0
IsProper mail.Nothing = Unit {0}
IsProper (mail.Posted s q) = (0 < s) × (s ≤ GREATEST_SERIAL) × IsProperRequest q
IsProper (mail.Answered a) = IsShortAnswer a

-- its serial or line number is not above those of a short queue
abbrev pub FitsShort : Mail → Type 0
FitsShort mail.Nothing = Unit {0}
FitsShort (mail.Posted s q) = s ≤ GREATEST_SERIAL
FitsShort (mail.Answered (Entered l r)) = l ≤ MOST_LINES
FitsShort (mail.Answered BookFull) = Unit {0}
FitsShort (mail.Answered NoMemory) = Unit {0}
FitsShort (mail.Answered (Refused refusal)) = Unit {0}

-- the same of the halves without items
abbrev pub IsProperNotice : Notice → Type 0
IsProperNotice (notice.Entered l o) = IsLineNumber l
IsProperNotice notice.BookFull = Unit {0}
IsProperNotice notice.NoMemory = Unit {0}
IsProperNotice (notice.Refused refusal) = Unit {0}

abbrev pub IsProperControl : Control → Type 0
IsProperControl Nothing = Unit {0}
IsProperControl (Posted s k) = IsSerial s
IsProperControl (Answered n) = IsProperNotice n

-- the phase of each control
abbrev pub kind_phase : Kind → ℕ
kind_phase kind.Push = PUSH_POSTED
kind_phase kind.Pop = POP_POSTED
kind_phase kind.Least = LEAST_POSTED

abbrev pub outcome_phase : Outcome → ℕ
outcome_phase outcome.Pushed = PUSHED
outcome_phase outcome.Got = GOT
outcome_phase outcome.Least = LEAST_TOLD
outcome_phase outcome.Empty = EMPTY

abbrev pub refusal_phase : Refusal → ℕ
refusal_phase refusal.Shut = SHUT
refusal_phase refusal.Full = FULL
refusal_phase refusal.Unarchived = UNARCHIVED

-- the word of a control: its phase in the low 4 bits, its serial or its journal line above them
abbrev pub notice_word : Notice → ℕ
notice_word (notice.Entered l o) = outcome_phase o + PHASES * l
notice_word notice.BookFull = BOOK_FULL
notice_word notice.NoMemory = NO_MEMORY
notice_word (notice.Refused refusal) = refusal_phase refusal

abbrev pub control_word : Control → ℕ
control_word Nothing = NOTHING
control_word (Posted s k) = kind_phase k + PHASES * s
control_word (Answered n) = notice_word n

-- where there is an item, this is its word
abbrev pub CarriesWord : Option Item → ℕ → Type 0
CarriesWord None word = Unit {0}
CarriesWord (Some x) word = item_word x ≡ word

-- the mail stands in these two words: the first is that of its control, and the second that of its
-- item, if it has one
abbrev pub StandsIn : Mail → ℕ → ℕ → Type 0
StandsIn m control item = (control_word (control_of m) ≡ control) × CarriesWord (mail_item m) item

-- the post of this kind, where the number is a serial
abbrev pub posted_of : Kind → ℕ → Option Control
posted_of k n = if nat_lt 0 n && nat_le n GREATEST_NUMBER then Some (Posted n k) else None

-- the answer with this outcome, where the number is that of a journal line
abbrev pub entered_of : Outcome → ℕ → Option Control
entered_of o n = if nat_lt 0 n && nat_le n GREATEST_NUMBER then Some (Answered (notice.Entered n o)) else None
