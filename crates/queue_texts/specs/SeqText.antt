-- The text of `flatpq seq`: its lines are commands, carried out on a queue of one thread with a
-- journal. Its items are wide or narrow.
use Rattle.std.specs.Prelude.{◌≡◌, ℕ, ◌+◌, ◌≤◌, Bool, false, List, [], length, Option, Some, Result, Ok, Err}
use Rattle.pq_types.specs.Asked.{Request}
use Rattle.pq_types.specs.Asked.{Answer}
use Rattle.pq_types.specs.Asked.{Line}
use Rattle.queue_texts.specs.declared.command.ScriptError.{ScriptError}
use Rattle.queue_texts.specs.Command.{Spells, IsRefusedFor}
use Rattle.pq_types.specs.Operation.{Asked}
use Rattle.pq_types.specs.History.{journal_after, last_serial, is_shut}
use Rattle.pq_types.specs.Laws.{MayDoPlainly}
use Rattle.queue_texts.specs.Text.{answer_text}
use Rattle.pq_book.specs.Book.{Volume, IsPlain}
use Rattle.line_script.specs.declared.lines.TheConstants.{LONGEST_LINE}
use Rattle.line_script.specs.declared.error.RunError.{RunError}
use Rattle.line_script.specs.Script.{Kind, FinishesAs, Writes}
use Rattle.queue_texts.specs.declared.faults.Refusal.{Refusal}
use Rattle.queue_texts.specs.declared.faults.Refusal.TheVariants.{Command}

-- The Book of commands: a plain one, which is not shut; and its next line's number is a serial that place 0 doesn't have yet.
pub record TakesCommands (book : Volume) : Type 0 where
  pub plain : IsPlain book
  pub unshut : is_shut book.journal ≡ false
  pub numbered : last_serial 0 book.journal ≤ length book.journal

-- A line that spells a request is answered by the rule of the journal, which has room for so many
-- lines, and is never shut. The poster's place is 0, and its serial the next line's number.
abbrev pub PlaysCommand : Bool → ℕ → List Line → List ℕ → List ℕ → List Line → Type 0
PlaysCommand wide room journal line text after =
    (request : Request) × (answer : Answer) × Spells wide line request × MayDoPlainly room journal (Asked request) answer
    × (text ≡ answer_text answer) × (after ≡ journal_after journal 0 (length journal + 1) request answer)

-- a line that spells no request is refused for its reason
abbrev pub RefusesCommand : Bool → ℕ → List ℕ → Refusal → Type 0
RefusesCommand wide n line refusal = (reason : ScriptError) × IsRefusedFor wide line reason × (refusal ≡ Command n reason)

-- commands over a journal with room for so many lines; the end of input is always met
abbrev pub commands : Bool → ℕ → Kind (List Line) Refusal
commands wide room =
    record {
      longest = LONGEST_LINE;
      plays = PlaysCommand wide room;
      refuses = λ journal. RefusesCommand wide;
      ends = λ journal r. r ≡ Ok tt;
    }

-- What `seq` with a journal of so many lines writes over this input: where the whole script is played, the Book that it leaves
-- has the journal of all its commands, and nothing is unread.
abbrev pub SeqWrites : Bool → ℕ → List ℕ → Option (List ℕ) → Result Volume (RunError Refusal) → List ℕ → Type 0
SeqWrites wide room input unread (Ok book) text =
    FinishesAs (commands wide room) [] input text book.journal × (unread ≡ Some [])
SeqWrites wide room input unread (Err e) text = Writes (commands wide room) [] input unread (Err e) text
