-- The desk is linearizable (Herlihy and Wing 1990), and its journal is the order: what its callers see of a run, and that the
-- journal puts their calls in one order which keeps that in which they were made.
use Rattle.std.specs.Prelude.{◌≡◌, ℕ, ◌+◌, ◌<◌, ◌≤◌, Bool, true, false, List, []}
use Rattle.std.specs.Prelude.{◌∷◌, ◌++◌, length, slice_get, Option, Some, None}
use Rattle.pq_types.specs.Asked.{Operation}
use Rattle.pq_types.specs.Operation.{Asked, Shuts}
use Rattle.pq_types.specs.Asked.{Answer}
use Rattle.pq_types.specs.declared.answer.Answer.TheVariants.{Entered, BookFull, NoMemory, Refused}
use Rattle.pq_types.specs.Asked.{Line}
use Rattle.pq_types.specs.declared.journal.TheConstants.{GREATEST_NUMBER}
use Rattle.pq_types.specs.Control.{answer_with}
use Rattle.pq_types.specs.History.{IsLegal, SerialsRise, HeedsShut, EndsAtShut, Limits}
use Rattle.desk_core.specs.Answering.{Bars}
use Rattle.desk_core.specs.Calls.{call_of}
use Rattle.desk_core.specs.CallLines.{IsLineOf}
use Rattle.desk_core.specs.Clauses.{HasNo, LockClause}
use Rattle.desk_core.specs.Pen.{told_by}
use Rattle.desk_core.specs.Desk.{Desk, put, opening}
use Rattle.desk_core.specs.Steps.{Event, Drafts, Posts, Tries, Reads, ReadsItem, LaysItem, Answers, Applies}
use Rattle.desk_core.specs.Steps.{Archives, Changes, HandsOut, Releases, ReleasesBy, Looks, SeesItem, TakesItem, Step, Run}
use Rattle.desk_core.specs.Rule.{StartsWith}
use Rattle.desk_core.specs.declared.model.Call.{Call}

-- What a caller sees of its call, which its place and serial name: it begins, with this operation; and
-- it ends, with this answer.
pub data Act : Type 0 where
  Begins : (place serial : ℕ) (operation : Operation) → Act
  Ends : (place serial : ℕ) (answer : Answer) → Act

-- the call ends where it is told an answer
abbrev pub told : ℕ → ℕ → Option Answer → List Act
told place serial None = []
told place serial (Some answer) = Ends place serial answer ∷ []

-- What callers see of a step. A post begins a call. The look that finds an answer without an item
-- ends it, or the taking of the item of one that has an item; who has loaded one word of that item goes
-- on waiting. A request of one's own begins and ends where the leader applies it, or with the release: of a
-- batch each is a call. Whatever more a caller does before or behind that, as the draft of its item, the try
-- of the lock, or the rest of its batch, makes its call longer, and of longer calls fewer are in an order.
abbrev pub acts : (d : Desk) (e : Event) (d' : Desk) → Step d e d' → List Act
acts d (Drafts seat x) d' step = []
acts d (Posts seat request) d' step = Begins step.0.place (step.0.posts + 1) (Asked request) ∷ []
acts d (Tries seat) d' step = []
acts d (Reads seat place) d' step = []
acts d (ReadsItem seat) d' step = []
acts d (LaysItem seat x) d' step = []
acts d (Answers seat answer) d' step = []
acts d (Applies seat request answer) d' step =
    Begins step.0.place (step.0.posts + 1) (Asked request) ∷ Ends step.0.place (step.0.posts + 1) answer ∷ []
acts d (Archives seat lines) d' step = []
acts d (Changes seat change) d' step = []
acts d (HandsOut seat) d' step = []
acts d (Releases seat) d' step = []
acts d (ReleasesBy seat operation answer) d' step =
    Begins step.0.place (step.0.posts + 1) operation ∷ Ends step.0.place (step.0.posts + 1) answer ∷ []
acts d (Looks seat) d' step = told step.0.place step.0.posts (told_by (d.control step.0.place))
acts d (SeesItem seat) d' step = []
acts d (TakesItem seat) d' step = Ends step.0.place step.0.posts (answer_with step.2 (d.item step.0.place)) ∷ []

-- what they see of a run, in its order
abbrev pub history : (d : Desk) (events : List Event) (d' : Desk) → Run d events d' → List Act
history d [] d' run = []
history d (e ∷ es) d' run = acts d e run.0 run.1 ++ history run.0 es d' run.2

-- the act is one of the history
abbrev pub IsIn : List Act → Act → Type 0
IsIn history act = (i : ℕ) × (slice_get history i ≡ Some act)

-- the call of the first place and serial has ended before that of the second has begun
pub record Precedes (history : List Act) (place serial place' serial' : ℕ) : Type 0 where
  pub end : ℕ
  pub begin : ℕ
  pub answer : Answer
  pub operation : Operation
  pub before : end < begin
  pub ends : slice_get history end ≡ Some (Ends place serial answer)
  pub begins : slice_get history begin ≡ Some (Begins place' serial' operation)

-- What a call was told is true, where the journal has room for so many lines: an entered one has that line,
-- with that reply, and a refused one none. If the answer was that the journal is full, or the queue shut,
-- that is so.
abbrev pub IsTrueOf : ℕ → List Line → ℕ → ℕ → Answer → Type 0
IsTrueOf room journal place serial (Entered number reply) =
    (operation : Operation) × IsLineOf journal place (call_of number serial operation reply)
IsTrueOf room journal place serial BookFull = (length journal ≡ room) × HasNo journal place serial
IsTrueOf room journal place serial NoMemory = HasNo journal place serial
IsTrueOf room journal place serial (Refused why) = Bars journal why × HasNo journal place serial

-- The calls of each place take turns, where these are the last serials that the places used, and these calls are
-- under way: a call begins, under a new serial, while none of its place is; and what ends is the one that began last there.
abbrev pub TakeTurns : (ℕ → ℕ) → (ℕ → Bool) → List Act → Type 0
TakeTurns last open_at [] = Unit {0}
TakeTurns last open_at (Begins place serial operation ∷ history) =
    (open_at place ≡ false) × (last place < serial) × TakeTurns (put last place serial) (put open_at place true) history
TakeTurns last open_at (Ends place serial answer ∷ history) =
    (open_at place ≡ true) × (last place ≡ serial) × TakeTurns last (put open_at place false) history

-- The journal, which has room for so many lines, linearizes the history. The calls of each place take turns.
-- The journal is a legal history of the one-thread queue, in which each call stands at most once, and no push
-- after a shut. Only calls that have begun stand there, each with its operation; a call that has ended was
-- told what is true there; and of two calls of which one has ended before the other began it has the earlier
-- line.
pub record Linearizes (room : ℕ) (history : List Act) (journal : List Line) : Type 0 where
  pub turns : TakeTurns (λ _. 0) (λ _. false) history
  pub legal : IsLegal journal
  pub once : SerialsRise journal
  pub heeds : HeedsShut journal
  pub begun : (place : ℕ) (c : Call) → IsLineOf journal place c → IsIn history (Begins place c.serial c.operation)
  pub ended : (place serial : ℕ) (answer : Answer) → IsIn history (Ends place serial answer)
      → IsTrueOf room journal place serial answer
  pub order :
      (place place' : ℕ) (b c : Call) → IsLineOf journal place b → IsLineOf journal place' c
      → Precedes history place b.serial place' c.serial
      → b.number < c.number

-- every run of the desk from the opening is linearized by its journal, that of the Book at home or in the
-- leader's hand
abbrev pub EveryRunIsLinearizable : Type 0
EveryRunIsLinearizable =
    (places : ℕ) (limits : Limits) (events : List Event) (d : Desk) → limits.room ≤ GREATEST_NUMBER → (run : Run (opening places limits) events d)
    → (journal : List Line) × LockClause d journal × Linearizes limits.room (history (opening places limits) events d run) journal

-- the order of a longer run begins with that of the shorter one: no call that has a line is put elsewhere
abbrev pub OrderStays : Type 0
OrderStays =
    (places : ℕ) (limits : Limits) (before after : List Event) (m d : Desk) (journal journal' : List Line) → limits.room ≤ GREATEST_NUMBER
    → Run (opening places limits) before m → LockClause m journal → Run m after d → LockClause d journal'
    → StartsWith journal' journal

-- Each line is made within its call. At any moment of a run, a call that has ended has its line, if it ever gets
-- one, in the journal; and the line of a call that begins later is behind that whole journal.
abbrev pub LinesAreWithinCalls : Type 0
LinesAreWithinCalls =
    (places : ℕ) (limits : Limits) (before after : List Event) (m d : Desk) (journal journal' : List Line) → limits.room ≤ GREATEST_NUMBER
    → (past : Run (opening places limits) before m) → LockClause m journal → (rest : Run m after d) → LockClause d journal'
    → (place : ℕ) (c : Call) → IsLineOf journal' place c
    → ((answer : Answer) → IsIn (history (opening places limits) before m past) (Ends place c.serial answer)
    → c.number ≤ length journal)
    × ((operation : Operation) → IsIn (history m after d rest) (Begins place c.serial operation) → length journal < c.number)

-- A shut ends pushes: where a call that has shut the queue ended before another began, the other is no push
-- with a line, and no other shut.
abbrev pub ShutEndsPushes : Type 0
ShutEndsPushes =
    (room : ℕ) (history : List Act) (journal : List Line) (place place' : ℕ) (b c : Call) → Linearizes room history journal
    → IsLineOf journal place b → b.operation ≡ Shuts → IsLineOf journal place' c
    → Precedes history place b.serial place' c.serial → EndsAtShut c.operation → ⊥
