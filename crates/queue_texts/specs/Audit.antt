-- When a text is a lawful journal, of wide items or of narrow ones, and what an audit of it says.
use Rattle.std.specs.Prelude.{◌≡◌, ◌≢◌, ℕ, ◌+◌, ◌<◌, ◌≤◌, ◌⊎◌, Bool, true, false, List, [], ◌∷◌, ◌++◌, length}
use Rattle.std.specs.Prelude.{Result, Ok, Err}
use Rattle.pq_types.specs.Asked.{Line}
use Rattle.pq_types.specs.Queue.{reply_to}
use Rattle.pq_types.specs.Entry.{reply_by}
use Rattle.pq_types.specs.History.{left, entries_of, IsLegal, SerialsRise, last_serial}
use Rattle.pq_types.specs.History.{shuts, is_shut, EndsAtShut, IsHeard, HeedsShut}
use Rattle.pq_types.specs.Operation.{Asked, ByTicket, Shuts, Remove, Move}
use Rattle.pq_types.specs.Asked.{Request, Reply, Operation}
use Rattle.queue_texts.specs.LineText.{IsLineText, IsNoLineFor}
use Rattle.queue_texts.specs.declared.line_text.TheConstants.{LONGEST_ENTRY}
use Rattle.line_script.specs.declared.error.RunError.{RunError}
use Rattle.line_script.specs.declared.error.RunError.TheVariants.{Refused, TooLong, NoMemory, Input, Output}
use Rattle.line_script.specs.Lines.{lines_of, without_return, count_of}
use Rattle.queue_texts.specs.declared.refusal.Breach.{Breach}
use Rattle.queue_texts.specs.declared.refusal.Breach.TheVariants.{WrongNumber, SerialFalls, BehindShut, WrongReply, WrongRemoval, WrongMove}
use Rattle.queue_texts.specs.declared.refusal.Unlawful.{Unlawful}
use Rattle.queue_texts.specs.declared.refusal.Unlawful.TheVariants.{NoLine, Broken}
use Rattle.queue_texts.specs.declared.refusal.AuditRefusal.{AuditRefusal}
use Rattle.queue_texts.specs.declared.report.AuditReport.{AuditReport}
use Rattle.queue_texts.specs.Report.{IsReportOf}

-- The texts are those of the journal's lines, which are numbered from n on. Each has at most 160
-- bytes; a carriage return at its end is dropped, and an empty one skipped.
abbrev pub SpellsFrom : Bool → ℕ → List (List ℕ) → List Line → Type 0
SpellsFrom wide n [] journal = journal ≡ []
SpellsFrom wide n (text ∷ texts) journal = (length text ≤ LONGEST_ENTRY)
    × (((without_return text ≡ []) × SpellsFrom wide n texts journal)
    ⊎ ((l : Line) × (rest : List Line) × (0 < length (without_return text)) × (journal ≡ l ∷ rest)
    × IsLineText wide (without_return text) n l × SpellsFrom wide (n + 1) texts rest))

-- a lawful journal: a legal history of the queue of one thread, with serials that rise at each place; after a
-- shut line stands no push, and no other shut
pub record IsLawful (journal : List Line) : Type 0 where
  pub legal : IsLegal journal
  pub rise : SerialsRise journal
  pub heeds : HeedsShut journal

-- How the line with this number breaks the law behind this journal: its number isn't due; or its
-- serial isn't above the last of its place; or it is a push, or another shut, and the queue is shut; or its reply, to a
-- request, a removal or a move, isn't the one-thread queue's.
abbrev pub Breaks : List Line → ℕ → Line → Breach → Type 0
Breaks journal number l (WrongNumber told due) = (told ≡ number) × (due ≡ length journal + 1) × (told ≢ due)
Breaks journal number l (SerialFalls place serial last) =
    (number ≡ length journal + 1) × (place ≡ l.place) × (serial ≡ l.serial) × (last ≡ last_serial l.place journal)
    × (serial ≤ last)
Breaks journal number l (BehindShut again) =
    (number ≡ length journal + 1) × (last_serial l.place journal < l.serial) × EndsAtShut l.operation × (is_shut journal ≡ true)
    × (again ≡ shuts l.operation)
Breaks journal number l (WrongReply told due) =
    (number ≡ length journal + 1) × (last_serial l.place journal < l.serial)
    × (told ≡ l.reply) × ((q : Request) × (l.operation ≡ Asked q) × (due ≡ reply_to (left journal) q)) × (told ≢ due)
Breaks journal number l (WrongRemoval ticket told due) =
    (number ≡ length journal + 1) × (last_serial l.place journal < l.serial) × (l.operation ≡ ByTicket (Remove ticket))
    × (told ≡ l.reply) × (due ≡ reply_by (entries_of journal) l.operation) × (told ≢ due)
Breaks journal number l (WrongMove ticket priority told due) =
    (number ≡ length journal + 1) × (last_serial l.place journal < l.serial) × (l.operation ≡ ByTicket (Move ticket priority))
    × (told ≡ l.reply) × (due ≡ reply_by (entries_of journal) l.operation) × (told ≢ due)

-- how a line with this operation and this reply breaks the law, where another reply is due; a shut that is read has the due one
abbrev pub breach_by : Operation → Reply → Reply → Breach
breach_by (Asked q) told due = WrongReply told due
breach_by (ByTicket (Remove ticket)) told due = WrongRemoval ticket told due
breach_by (ByTicket (Move ticket priority)) told due = WrongMove ticket priority told due
breach_by Shuts told due = WrongReply told due

-- why this text is no lawful line behind this journal
abbrev pub IsUnlawful : Bool → List Line → List ℕ → Unlawful → Type 0
IsUnlawful wide journal text (NoLine error) = IsNoLineFor wide text error
IsUnlawful wide journal text (Broken breach) =
    (number : ℕ) × (l : Line) × IsLineText wide text number l × Breaks journal number l breach

-- why this line of the input is no lawful one behind this journal: it is too long, or unlawful
abbrev pub IsRefused : Bool → List Line → ℕ → List ℕ → RunError AuditRefusal → Type 0
IsRefused wide journal n text (Refused refusal) =
    (length text ≤ LONGEST_ENTRY) × (0 < length (without_return text))
    × (refusal.line ≡ n) × IsUnlawful wide journal (without_return text) refusal.reason
IsRefused wide journal n text (TooLong line) = (LONGEST_ENTRY < length text) × (line ≡ n)
IsRefused wide journal n text NoMemory = ⊥
IsRefused wide journal n text Input = ⊥
IsRefused wide journal n text Output = ⊥

-- the first line of the input that is no lawful one: those before it spell a lawful journal
pub record IsFirst (wide : Bool) (input : List ℕ) (e : RunError AuditRefusal) : Type 0 where
  pub before : List (List ℕ)
  pub text : List ℕ
  pub behind : List (List ℕ)
  pub lines : lines_of input ≡ before ++ text ∷ behind
  pub journal : List Line
  pub spelled : SpellsFrom wide 1 before journal
  pub lawful : IsLawful journal
  pub refused : IsRefused wide journal (count_of (length before + 1)) text e

-- What an audit says of an input: a report, where it is a lawful journal; else the first line that
-- is no lawful one. Where memory is refused or a read fails it says nothing of the input.
abbrev pub Audits : Bool → List ℕ → Result AuditReport (RunError AuditRefusal) → Type 0
Audits wide input (Ok report) =
    (journal : List Line) × SpellsFrom wide 1 (lines_of input) journal × IsLawful journal × IsReportOf journal report
Audits wide input (Err (Refused refusal)) = IsFirst wide input (Refused refusal)
Audits wide input (Err (TooLong line)) = IsFirst wide input (TooLong line)
Audits wide input (Err NoMemory) = Unit {0}
Audits wide input (Err Input) = Unit {0}
Audits wide input (Err Output) = Unit {0}

-- the audit refused a line
abbrev pub HasRefused : Result AuditReport (RunError AuditRefusal) → Type 0
HasRefused (Ok report) = ⊥
HasRefused (Err (Refused refusal)) = Unit {0}
HasRefused (Err (TooLong line)) = Unit {0}
HasRefused (Err NoMemory) = ⊥
HasRefused (Err Input) = ⊥
HasRefused (Err Output) = ⊥

-- no line of a lawful journal is refused
abbrev pub LawfulIsNotRefused : Type 0
LawfulIsNotRefused = (wide : Bool) (input : List ℕ) (result : Result AuditReport (RunError AuditRefusal)) (journal : List Line)
    → Audits wide input result → SpellsFrom wide 1 (lines_of input) journal → IsLawful journal → ¬ (HasRefused result)

-- the texts of a journal of narrow items are those of the same journal of wide items
abbrev pub NarrowIsWide : Type 0
NarrowIsWide = (n : ℕ) (texts : List (List ℕ)) (journal : List Line) → SpellsFrom false n texts journal
    → SpellsFrom true n texts journal

-- the line that this text spells may follow this journal, and then this journal stands there
abbrev pub PlaysEntry : Bool → List Line → List ℕ → List ℕ → List Line → Type 0
PlaysEntry wide journal line text after =
    (l : Line) × IsLineText wide line (length journal + 1) l × (l.reply ≡ reply_by (entries_of journal) l.operation)
    × (last_serial l.place journal < l.serial) × (text ≡ []) × (after ≡ journal ++ l ∷ []) × IsHeard journal l.operation

-- line n may not follow this journal
abbrev pub RefusesEntry : Bool → List Line → ℕ → List ℕ → AuditRefusal → Type 0
RefusesEntry wide journal n line refusal = (refusal.line ≡ n) × IsUnlawful wide journal line refusal.reason
