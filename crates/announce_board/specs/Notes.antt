-- Notes, by which one pen tells another what it knows of the journal: what a contract sees of one, and what the writing and the
-- hearing of one make of the pens.
use Rattle.std.specs.Prelude.{◌≡◌, ℕ, Bool, List, [], ◌∷◌}
use mathlib.Core.Option.{none}
use Rattle.std.specs.List.{AllByRecursion}
use Rattle.atomic_table.specs.Seated.{TableId}
use Rattle.atomic_table.specs.Table.{Step, step}
use Rattle.pq_types.specs.Asked.{Line}
use Rattle.announce_board.specs.Slots.{Slotted}
use Rattle.desk_core.specs.CallLines.{IsLineOf}
use Rattle.desk_core.specs.Dealing.{Writes, Hears}
use Rattle.desk_core.specs.Knows.{Knows}
use Rattle.desk_core.specs.Layout.{lock_at}
use Rattle.desk_core.specs.Notes.{after_catch_up, after_writing, after_hearing}
use Rattle.desk_core.specs.declared.model.PenState.{PenState}
use Rattle.desk_core.specs.declared.model.View.{View}
use Rattle.desk_core.specs.declared.model.View.TheVariants.{Dealer, Holder, Note, Testimony}
use Rattle.announce_board.specs.Allowed.{Form, Plainly, CutForm, CutPlainly, JoinForm, JoinPlainly, AtEachPen}
use Rattle.announce_board.specs.InCommon.{in_common}
use Rattle.announce_board.specs.Rule.{Seated, pen_of}
use Rattle.announce_board.specs.Steps.{pen_at, Becomes}

-- a note: the table of its desk, and the journal that it tells
pub record Noted : Type 0 where
  pub table : TableId
  pub told : List Line

-- the journal that the note at a seat tells
abbrev pub told_of : View → List Line
told_of (Dealer place room) = []
told_of (Holder p) = []
told_of (Note told) = told
told_of (Testimony pens licences) = []

-- that of a badge that has one view
abbrev pub told_in : List View → List Line
told_in [] = []
told_in (v ∷ vs) = told_of v

-- a badge is that of a note
abbrev pub IsNote : List View → Type 0
IsNote views = views ≡ Note (told_in views) ∷ []

-- the pen that writes a note, and the note
abbrev pub writer : View → View
writer v = Holder (after_writing (pen_of v))

abbrev pub note_of : View → View
note_of v = Note (pen_of v).known

-- the pen that has just heard a note, and has not caught up yet: it knows what its own journal and that of the note have in
-- common
abbrev pub while_hearing : PenState → List Line → PenState
while_hearing p told = record (after_hearing p told) { known = in_common p.known told }

-- the pen that hears a note
abbrev pub hearer : View → View → View
hearer v note = Holder (while_hearing (pen_of v) (told_of note))

-- The pen has caught up with some journal, of which it knows what a pen knows of the one at home.
abbrev pub CatchesUp : Seated → Seated → Type 0
CatchesUp before after =
    (journal : List Line) × Knows (pen_at before).room (pen_at before) journal
    × Becomes before (after_catch_up (pen_at before) journal) after

abbrev pub CaughtUp : Step Slotted → Seated → ℕ → Seated → Type 0
CaughtUp st before word after = CatchesUp before after

-- the pen after it has caught up with this journal, and written a note of it
abbrev pub after_note : PenState → List Line → PenState
after_note p journal = after_writing (after_catch_up p journal)

-- the pen after it has heard a note that tells the one journal, and caught up with the other
abbrev pub after_hearing_all : PenState → List Line → List Line → PenState
after_hearing_all p told journal = after_catch_up (after_hearing p told) journal

-- The calls that the pen has read whole stand in the journal, each on the line of its number.
abbrev pub HasItsCalls : PenState → List Line → Type 0
HasItsCalls p journal = AllByRecursion (λ c. IsLineOf journal p.place c) p.mine

-- each pen may catch up, write a note, and hear any note
abbrev pub CatchUpAllowedBy : Form → Bool → (ℕ → Type 0) → Type 0
CatchUpAllowedBy A wide roomy = AtEachPen (λ room terms places slots id m.
    A wide roomy room terms places slots id m lock_at (λ n. n) (CaughtUp (step slots lock_at 0 0 none) m))

abbrev pub WritingAllowedBy : CutForm → Bool → (ℕ → Type 0) → Type 0
WritingAllowedBy A wide roomy = AtEachPen (λ room terms places slots id m.
    A (Writes id) wide roomy room terms places id m.0 (writer m.0) (note_of m.0))

abbrev pub HearingAllowedBy : JoinForm → Bool → (ℕ → Type 0) → Type 0
HearingAllowedBy A wide roomy = AtEachPen (λ room terms places slots id m. (other : ℕ) (note : View) → note ≡ Note (told_of note)
    → A (Hears id other) wide roomy room terms places id m.0 other note (hearer m.0 note) (Note []))

-- each of them, as the table asks
abbrev pub CatchUpAllowed : Bool → (ℕ → Type 0) → Type 0
CatchUpAllowed = CatchUpAllowedBy Plainly

abbrev pub WritingAllowed : Bool → (ℕ → Type 0) → Type 0
WritingAllowed = WritingAllowedBy CutPlainly

abbrev pub HearingAllowed : Bool → (ℕ → Type 0) → Type 0
HearingAllowed = HearingAllowedBy JoinPlainly

-- a pen finds all its calls in a journal that it knows
abbrev pub CallsAreFound : Type 0
CallsAreFound = (p : PenState) (journal : List Line) → Knows p.room p journal → HasItsCalls p journal
