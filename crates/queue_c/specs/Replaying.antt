-- What the calls for C that read a journal back from its text answer, and what they make of what a handle holds.
use Rattle.std.specs.Prelude.{◌≡◌, ◌≢◌, ℕ, ◌-◌, ◌↔◌, ◌⊎◌, true, List, [], ◌∷◌, length, drop, Option, Some, None, IsSome}
use Rattle.pq_types.specs.Asked.{Line}
use Rattle.pq_types.specs.History.{left}
use Rattle.pq_book.specs.declared.limit.TheConstants.{LONG_PAGE}
use Rattle.queue_texts.specs.Audit.{IsLawful, IsUnlawful}
use Rattle.queue_texts.specs.Replay.{Replayed, LacksMemory, TakesText}
use Rattle.queue_texts.specs.declared.refusal.Unlawful.{Unlawful}
use Rattle.queue_c.specs.Handles.{replay_in, journal_in}
use Rattle.queue_c.specs.Calls.{IsOneOf}
use Rattle.queue_c.specs.Values.{Told}
use Rattle.queue_c.specs.declared.codes.TheConstants.{NO_HANDLE, NO_MEMORY, NOT_LAWFUL, OK}
use Rattle.queue_c.specs.declared.contents.Contents.{Contents}
use Rattle.queue_c.specs.declared.contents.Contents.TheVariants as holds

-- an opening of a replay, which has read no line
pub record OpenReplayAnswers (before : Option Contents) (code : ℕ) (after : Option Contents) : Type 0 where
  pub opened : code ≡ OK → after ≡ Some (holds.Replay (record { journal = [] }))
  pub refused : code ≢ OK → after ≡ before
  pub codes : IsOneOf code (OK ∷ NO_MEMORY ∷ NO_HANDLE ∷ [])
  pub not_empty : (code ≡ NO_HANDLE) ↔ IsSome before

-- the journal that was read has gained the line of this text, which may come next, and is a lawful one
abbrev pub ReadingLine : List ℕ → Option Replayed → Option Replayed → Type 0
ReadingLine text (Some before) (Some after) = TakesText true before.journal text after.journal × IsLawful after.journal
ReadingLine text before after = ⊥

-- the text is no line that may come next, for this reason
abbrev pub RefusingLine : List ℕ → Option Replayed → Type 0
RefusingLine text None = ⊥
RefusingLine text (Some replay) = (why : Unlawful) × IsUnlawful true replay.journal text why

-- the text is a push or a move that may come next, and memory for its item was refused
abbrev pub LackingMemory : List ℕ → Option Replayed → Type 0
LackingMemory text None = ⊥
LackingMemory text (Some replay) = LacksMemory true replay.journal text

-- a reading of this text as the next line
pub record LineAnswers (text : List ℕ) (before : Option Contents) (code : ℕ) (after : Option Contents) : Type 0 where
  pub read : code ≡ OK → ReadingLine text (replay_in before) (replay_in after)
  pub refused : code ≢ OK → after ≡ before
  pub codes : IsOneOf code (OK ∷ NO_MEMORY ∷ NO_HANDLE ∷ NOT_LAWFUL ∷ [])
  pub no_replay : (code ≡ NO_HANDLE) ↔ (replay_in before ≡ None)
  pub not_lawful : code ≡ NOT_LAWFUL → RefusingLine text (replay_in before)
  pub memory : code ≡ NO_MEMORY → LackingMemory text (replay_in before)

-- This is told of the lines that were read, which are a lawful journal: the last ones, how many came before them, and exactly
-- the items that all of them leave in the queue.
pub record IsReadBack (journal : List Line) (told : Told) : Type 0 where
  pub lawful : IsLawful journal
  pub items : told.items ≡ left journal
  pub before : told.before ≡ length journal - LONG_PAGE
  pub lines : told.lines ≡ drop told.before journal

-- the replay has ended, and this is what it has read
abbrev pub Ending : Option Replayed → Option Told → Type 0
Ending (Some replay) (Some told) = IsReadBack replay.journal told
Ending replay told = ⊥

-- an end of a replay, whose journal another handle is to hold
pub record EndAnswers (before journal : Option Contents) (code : ℕ) (after journal' : Option Contents) : Type 0 where
  pub ended : code ≡ OK → Ending (replay_in before) (journal_in journal')
  pub was_empty : code ≡ OK → journal ≡ None
  pub empty : code ≡ OK → after ≡ None
  pub refused : code ≢ OK → (after ≡ before) × (journal' ≡ journal)
  pub codes : IsOneOf code (OK ∷ NO_HANDLE ∷ [])
  pub no_handle : (code ≡ NO_HANDLE) ↔ (IsSome journal ⊎ (replay_in before ≡ None))
