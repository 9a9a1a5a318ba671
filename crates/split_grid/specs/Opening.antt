-- What a grid is opened with, and why it is not opened.
use Rattle.std.specs.Prelude.{◌≡◌, ℕ, ◌+◌, ◌*◌, ◌/◌, List, map, length, slice_get, Some}
use Rattle.std.specs.List.{All}
use Rattle.atomic_table.specs.Seated.{TableId}
use Rattle.split_core.specs.Comer.{comer_of}
use Rattle.split_core.specs.Ids.{id_code}
use Rattle.split_grid.specs.Tokens.{Running, Walking}
use Rattle.split_grid.specs.declared.error.GridError.{GridError}
use Rattle.split_grid.specs.declared.error.GridError.TheVariants.{Comers, WrongCount, NoMemory}

-- the number of the places of a grid of n comers
abbrev pub places_of : ℕ → ℕ
places_of n = n * (n + 1) / 2

-- each value fits the tag and its index
abbrev pub AllFit : {T G : Type 0} → (G → ℕ → T → Type 0) → G → List T → Type 0
AllFit {T} fits tag values = (p : ℕ) (x : T) → slice_get values p ≡ Some x → fits tag p x

module _ {G : Type 0} where
  -- the newcomer for the comer of this id, before its first step, in the grid of this table, tag
  -- and number of comers
  abbrev pub newcomer_in : TableId → G → ℕ → ℕ → Walking G
  newcomer_in table tag comers id = record { table = table; tag = tag; comers = comers; comer = comer_of id }

  abbrev pub newcomer_of : Running G → ℕ → Walking G
  newcomer_of grid id = newcomer_in grid.table grid.tag grid.comers id

  -- the grid has this tag and the comers of these ids, and there is a newcomer of it for each id,
  -- in their order, which may walk it
  pub record Opens (tag : G) (ids : List ℕ) (grid : Running G) (newcomers : List (Walking G)) : Type 0 where
    pub tagged : grid.tag ≡ tag
    pub counted : grid.comers ≡ length ids
    pub dealt : newcomers ≡ map (newcomer_of grid) ids
    pub here : All (λ n. n.table ≡ grid.table) newcomers

-- the number of each refusal
abbrev pub grid_code : GridError → ℕ
grid_code (Comers fault) = id_code fault
grid_code WrongCount = 7
grid_code NoMemory = 6
