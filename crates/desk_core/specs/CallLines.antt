-- What the calls of a place, as `calls_of` has them, are in the journal.
use Rattle.std.specs.Prelude.{◌≡◌, ℕ, ◌-◌, ◌<◌, ◌≤◌, List, length, slice_get, Some}
use Rattle.pq_types.specs.Asked.{Line}
use Rattle.pq_types.specs.History.{line_of}
use Rattle.desk_core.specs.Calls.{calls_of}
use Rattle.desk_core.specs.declared.model.Call.{Call}

-- the call stands in the journal on the line of its number
pub record IsLineOf (journal : List Line) (place : ℕ) (c : Call) : Type 0 where
  pub some : 0 < c.number
  pub within : c.number ≤ length journal
  pub there : slice_get journal (c.number - 1) ≡ Some (line_of place c.serial c.operation c.reply)

-- where these are the journal's calls of a place, each of them is such a line
abbrev pub CallsAreLines : Type 0
CallsAreLines =
    (place : ℕ) (journal : List Line) (calls : List Call) → calls_of place journal ≡ calls
    → (i : ℕ) (c : Call) → slice_get calls i ≡ Some c → IsLineOf journal place c

-- and their numbers rise
abbrev pub NumbersRise : Type 0
NumbersRise =
    (place : ℕ) (journal : List Line) (calls : List Call) → calls_of place journal ≡ calls
    → (i j : ℕ) (b c : Call) → i < j → slice_get calls i ≡ Some b → slice_get calls j ≡ Some c → b.number < c.number
