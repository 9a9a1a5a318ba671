-- How long the journal is that a queue is opened with, and its bound.
use Rattle.std.specs.Prelude.{ℕ, ◌==◌, if◌then◌else◌, Option, Some, None}
use Rattle.flat_queue.specs.declared.length.Length.{Length}
use Rattle.flat_queue.specs.declared.length.Length.TheVariants.{Lines, Keeping, Archived}

-- the length that these two numbers mean: how the journal is kept, and how many lines
abbrev pub length_of : ℕ → ℕ → Option Length
length_of keeping entries =
    if keeping == 0 then Some (Keeping entries)
    else if keeping == 1 then Some (Archived entries)
    else if keeping == 2 then Some (Lines entries) else None

-- the bound that this number means: none, or this one
abbrev pub bound_of : ℕ → Option ℕ
bound_of most = if most == 0 then None else Some most
