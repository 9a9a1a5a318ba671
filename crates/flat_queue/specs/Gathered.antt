-- What is gathered of a desk's pens and licences, one testimony after another.
use Rattle.std.specs.Prelude.{◌≡◌, ℕ, ◌+◌, List, [], ◌++◌, Option, Some, None}
use Rattle.atomic_table.specs.Seated.{TableId}
use Rattle.desk_core.specs.declared.model.PenState.{PenState}
use Rattle.announce_board.specs.Testimonies.{Testified}

-- so many licences of this desk, and no pen
abbrev pub licences_at : TableId → ℕ → Testified
licences_at table licences = record { table = table; pens = []; licences = licences }

-- These pens of this desk and so many licences were gathered. Where there is no testimony yet, that is nothing.
abbrev pub Gathers : TableId → List PenState → ℕ → Option Testified → Type 0
Gathers table pens licences None = (pens ≡ []) × (licences ≡ 0)
Gathers table pens licences (Some t) = t ≡ record { table = table; pens = pens; licences = licences }

-- what was gathered is of this desk
abbrev pub IsOf : TableId → Option Testified → Type 0
IsOf table None = Unit {0}
IsOf table (Some t) = t.table ≡ table

-- What was gathered by the one and by the other is gathered.
abbrev pub GathersBoth : TableId → (one other all : Option Testified) → Type 0
GathersBoth table one other all =
    (pens more : List PenState) (licences licences' : ℕ) → Gathers table pens licences one → Gathers table more licences' other
    → Gathers table (pens ++ more) (licences + licences') all
