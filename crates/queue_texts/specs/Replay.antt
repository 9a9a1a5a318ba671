-- What a replay makes of a text that is read as a journal's next line, and what the lines so far leave.
use Rattle.std.specs.Prelude.{◌≡◌, ℕ, ◌+◌, ◌-◌, ◌<◌, Bool, List, [], ◌∷◌, ◌++◌, length, map, drop, get_or}
use Rattle.pq_types.specs.Asked.{Line}
use Rattle.pq_types.specs.declared.journal.TheConstants.{GREATEST_NUMBER}
use Rattle.pq_types.specs.Entry.{Entry, item_of, reply_by}
use Rattle.pq_types.specs.History.{left, entries_of, last_serial, IsHeard, PutsIn}
use Rattle.pq_book.specs.Book.{Volume, IsPlain}
use Rattle.pq_book.specs.declared.limit.TheConstants.{LONG_PAGE}
use Rattle.queue_texts.specs.declared.replay.TheConstants.{PLACES}
use Rattle.queue_texts.specs.declared.replay.ReplayError.{ReplayError}
use Rattle.queue_texts.specs.declared.replay.ReplayError.TheVariants.{Unlawful, NoMemory}
use Rattle.queue_texts.specs.LineText.{IsLineText}
use Rattle.queue_texts.specs.Audit.{IsLawful, IsUnlawful}

-- what a contract sees of a replay: the lines so far
pub record Replayed : Type 0 where
  pub journal : List Line

-- The line with this number may stand behind this journal: its number is due, its serial is above the last of its place, its
-- reply is the one-thread queue's, and it is no push, and no other shut, where the queue is shut.
pub record Follows (journal : List Line) (number : ℕ) (l : Line) : Type 0 where
  pub number_is : number ≡ length journal + 1
  pub serial : last_serial l.place journal < l.serial
  pub reply : l.reply ≡ reply_by (entries_of journal) l.operation
  pub heard : IsHeard journal l.operation

-- the text is that of this line, which may stand behind this journal
abbrev pub MayFollow : Bool → List Line → List ℕ → Line → Type 0
MayFollow wide journal text l = IsLineText wide text (length journal + 1) l × Follows journal (length journal + 1) l

-- the line of this text may stand behind the first journal, and the second one is the first with that line
abbrev pub TakesText : Bool → List Line → List ℕ → List Line → Type 0
TakesText wide journal text after = (l : Line) × MayFollow wide journal text l × (after ≡ journal ++ l ∷ [])

-- the line of this text may stand behind this journal, a push or a move, for whose item memory is refused
abbrev pub LacksMemory : Bool → List Line → List ℕ → Type 0
LacksMemory wide journal text = (l : Line) × MayFollow wide journal text l × PutsIn l.operation

-- Why this text is not replayed behind this journal: it is no line that may stand there; or it is one, and memory is refused.
abbrev pub RefusesText : Bool → List Line → List ℕ → ReplayError → Type 0
RefusesText wide journal text (Unlawful why) = IsUnlawful wide journal text why
RefusesText wide journal text NoMemory = LacksMemory wide journal text

-- What a lawful journal is read back as: the items that it leaves in the queue, how many lines came before those that are
-- kept, and these, its last 65,536.
pub record Leaves (journal : List Line) (content : List Entry) (before : ℕ) (lines : List Line) : Type 0 where
  pub lawful : IsLawful journal
  pub items : map item_of content ≡ left journal
  pub forgotten : before ≡ length journal - LONG_PAGE
  pub kept : lines ≡ drop before journal

-- the last serial of each place
abbrev pub AreLastSerials : List ℕ → List Line → Type 0
AreLastSerials last journal =
    (length last ≡ PLACES) × ((place : ℕ) → place < PLACES → get_or last place 0 ≡ last_serial place journal)

-- What a replay keeps: a lawful journal in a plain Book with the greatest room, and the last serial of each place.
pub record IsReplayed (book : Volume) (last : List ℕ) : Type 0 where
  pub room_is : book.room ≡ GREATEST_NUMBER
  pub plain : IsPlain book
  pub lawful : IsLawful book.journal
  pub serials : AreLastSerials last book.journal
