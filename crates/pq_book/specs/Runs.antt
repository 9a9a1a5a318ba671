-- Runs of requests, removals, moves and shuts on a Book.
use Rattle.std.specs.Prelude.{◌≡◌, ℕ, ◌+◌, ◌<◌, List, [], ◌∷◌, ◌++◌}
use Rattle.pq_types.specs.Asked.{Operation, Reply, Answer, Line}
use Rattle.pq_types.specs.Operation.{Asked}
use Rattle.pq_types.specs.Entry.{Entry, entries_after, reply_by}
use Rattle.pq_types.specs.History.{last_serial, journal_by, MayDo}
use Rattle.pq_book.specs.Book.{Dealing, limits, with_entered, with_reply}

-- a request, a removal, a move or a shut from a place, with its serial and its answer, and how many lines
-- were allowed then
pub record Doing : Type 0 where
  pub allowed : ℕ
  pub place : ℕ
  pub serial : ℕ
  pub operation : Operation
  pub answer : Answer

-- what was done for this place under this serial, and was answered so
abbrev pub doing : ℕ → ℕ → ℕ → Operation → Answer → Doing
doing allowed place serial operation answer =
    record { allowed = allowed; place = place; serial = serial; operation = operation; answer = answer }

-- a dealing as such
abbrev pub as_doing : Dealing → Doing
as_doing d = doing d.allowed d.place d.serial (Asked d.request) d.answer

-- A Book with this room, bound and journal may answer these so, one after another, and then has the journal `after`. Each comes with
-- a serial above those of its place.
abbrev pub MayRun : ℕ → ℕ → List Line → List Doing → List Line → Type 0
MayRun room bound journal [] after = after ≡ journal
MayRun room bound journal (d ∷ ds) after =
    (last_serial d.place journal < d.serial) × MayDo (limits room bound d.allowed) journal d.operation d.answer
    × MayRun room bound (journal_by journal d.place d.serial d.operation d.answer) ds after

-- a run and another that goes on from its journal are one run
abbrev pub DoingsJoin : Type 0
DoingsJoin =
    (room bound : ℕ) (journal middle after : List Line) (first then : List Doing)
    → MayRun room bound journal first middle → MayRun room bound middle then after
    → MayRun room bound journal (first ++ then) after

-- the operations that were entered, in their order
abbrev pub entered_operations : List Doing → List Operation
entered_operations [] = []
entered_operations (d ∷ ds) = with_entered d.answer d.operation (entered_operations ds)

-- their replies
abbrev pub done_replies : List Doing → List Reply
done_replies [] = []
done_replies (d ∷ ds) = with_reply d.answer (done_replies ds)

-- the entries that operations leave one after another, on lines from this number on
abbrev pub entries_after_all : List Entry → ℕ → List Operation → List Entry
entries_after_all es number [] = es
entries_after_all es number (o ∷ os) = entries_after_all (entries_after es number o) (number + 1) os

-- and the replies to them
abbrev pub replies_by_from : List Entry → ℕ → List Operation → List Reply
replies_by_from es number [] = []
replies_by_from es number (o ∷ os) = reply_by es o ∷ replies_by_from (entries_after es number o) (number + 1) os
