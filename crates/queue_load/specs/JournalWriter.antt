-- A journal that is written down while its queue runs.
use Rattle.std.specs.Prelude.{◌≡◌, ℕ, ◌+◌, Bool, true, false, List, ◌++◌, length, Option}
use Rattle.std.specs.Io.KnownBytes.{Appends}
use Rattle.pq_types.specs.Asked.{Line}
use Rattle.queue_texts.specs.LineText.{journal_text}
use Rattle.desk_core.specs.Rule.{StartsWith}
use Rattle.flat_queue.specs.Members.{Joined}
use Rattle.queue_load.specs.declared.journal_writer.JournalWriter.{JournalWriter}

-- the writer has a beginning of this text more
abbrev pub AppendsBeginning : Option (List ℕ) → Option (List ℕ) → List ℕ → Type 0
AppendsBeginning old new text = (part : List ℕ) × (rest : List ℕ) × (text ≡ part ++ rest) × Appends old new part

-- What is written of a journal of which so much is known: the text of its first lines, which are so many; or, where the writing
-- failed, a beginning of the journal's text.
abbrev pub StandsWritten : Bool → Option (List ℕ) → Option (List ℕ) → ℕ → List Line → Type 0
StandsWritten false old new written known =
    (lines : List Line) × (more : List Line) × (known ≡ lines ++ more) × (written ≡ length lines)
    × Appends old new (journal_text 1 lines)
StandsWritten true old new written known = AppendsBeginning old new (journal_text 1 known)

-- the same of a journal writer, which has come so far or has failed
abbrev pub IsWritten : JournalWriter → Option (List ℕ) → Option (List ℕ) → List Line → Type 0
IsWritten writing old new known = StandsWritten writing.failed old new writing.written known

-- What was written when the journal was known so far has become what is written now that it is known so far, whatever stood with
-- the writer when the writing began.
pub record GoesOn (before after : JournalWriter) (old new : Option (List ℕ)) (known known' : List Line) : Type 0 where
  pub writes : (first : Option (List ℕ)) → IsWritten before first old known → IsWritten after first new known'

-- what a journal writer has put of these lines behind those that were written, of which all were to be so many
abbrev pub HasPut : Bool → Option (List ℕ) → Option (List ℕ) → (written lines : ℕ) → List Line → JournalWriter → Type 0
HasPut false old new written lines page writing = (writing.written ≡ lines) × Appends old new (journal_text (written + 1) page)
HasPut true old new written lines page writing = AppendsBeginning old new (journal_text (written + 1) page)

-- the whole journal is written, or a beginning of it
abbrev pub WritesAll : Bool → Option (List ℕ) → Option (List ℕ) → List Line → Type 0
WritesAll true old new journal = Appends old new (journal_text 1 journal)
WritesAll false old new journal = AppendsBeginning old new (journal_text 1 journal)

-- The member has led and released, or found the lock held, or heard a note: it has its place, its calls and its standing, and
-- knows what it knew of the journal, and maybe more.
pub record StaysIdle (before after : Joined) : Type 0 where
  pub queue : after.queue ≡ before.queue
  pub comer : after.comer ≡ before.comer
  pub place : after.pen.place ≡ before.pen.place
  pub standing : after.pen.standing ≡ before.pen.standing
  pub leading : after.pen.leading ≡ before.pen.leading
  pub posts : after.pen.posts ≡ before.pen.posts
  pub mine : after.pen.mine ≡ before.pen.mine
  pub known : StartsWith after.pen.known before.pen.known

-- the journal writer has written nothing
pub record Begins (writing : JournalWriter) : Type 0 where
  pub writes : (first : Option (List ℕ)) (known : List Line) → IsWritten writing first first known

-- where a journal begins with what is known and has so many lines in the end, the writer has all of it, or a beginning, as is
-- told
pub record EndsSo (writing : JournalWriter) (lines : ℕ) (told : Bool) : Type 0 where
  pub writes : (first now : Option (List ℕ)) (journal known : List Line) → IsWritten writing first now known
      → StartsWith journal known
      → lines ≡ length journal → WritesAll told first now journal
