-- Which lists of ids open a grid, what is wrong with the others, and the search for an id.
use Rattle.std.specs.Prelude.{◌≡◌, ◌≢◌, ℕ, ◌<◌, List, length, slice_index, slice_get, Option, Some, None}
use Rattle.split_core.specs.Places.{IsGridSize}
use Rattle.split_core.specs.declared.places.TheConstants.{MAX_COMERS}
use Rattle.split_core.specs.declared.walker.Walker.{Walker}
use Rattle.split_core.specs.declared.ids.IdError.{IdError}
use Rattle.split_core.specs.declared.ids.IdError.TheVariants.{NoComers, TooManyComers, ZeroId, RepeatedId, NoMemory}

-- the id at position k is equal to an earlier one
abbrev pub IsRepeated : List ℕ → ℕ → Type 0
IsRepeated ids k = (j : ℕ) × (j < k) × (slice_index ids j ≡ slice_index ids k)

-- none of the first n ids is 0, and none is equal to an earlier one
abbrev pub AreFine : List ℕ → ℕ → Type 0
AreFine ids n = (k : ℕ) → k < n → (slice_index ids k ≢ 0) × ¬ IsRepeated ids k

-- 1 to 64 ids, none 0 and no two equal
pub record OpenGrid (ids : List ℕ) : Type 0 where
  pub size : IsGridSize (length ids)
  pub fine : AreFine ids (length ids)

-- the id at position k is the first that is 0 or equal to an earlier one
pub record IsFirstFault (ids : List ℕ) (k : ℕ) : Type 0 where
  pub size : IsGridSize (length ids)
  pub within : k < length ids
  pub before : AreFine ids k

-- what is wrong with a list of ids; want of memory is no fault of the list
abbrev pub IsFault : List ℕ → IdError → Type 0
IsFault ids NoComers = length ids ≡ 0
IsFault ids TooManyComers = MAX_COMERS < length ids
IsFault ids (ZeroId k) = IsFirstFault ids k × (slice_index ids k ≡ 0)
IsFault ids (RepeatedId k) = IsFirstFault ids k × (slice_index ids k ≢ 0) × IsRepeated ids k
IsFault ids NoMemory = ⊥

-- the walker at position k is this one, the first with this id
pub record IsFirstWithId (walkers : List Walker) (id k : ℕ) (r : Walker) : Type 0 where
  pub there : slice_get walkers k ≡ Some r
  pub named : r.id ≡ id
  pub before : (j : ℕ) (other : Walker) → j < k → slice_get walkers j ≡ Some other → other.id ≢ id

-- the answer to a search by id: the first walker with this id and its position, or nothing where
-- none has it
abbrev pub FindsId : List Walker → ℕ → Option (ℕ × Walker) → Type 0
FindsId walkers id None = (k : ℕ) (r : Walker) → slice_get walkers k ≡ Some r → r.id ≢ id
FindsId walkers id (Some found) = IsFirstWithId walkers id found.0 found.1

-- the number of each refusal
abbrev pub id_code : IdError → ℕ
id_code NoComers = 1
id_code TooManyComers = 2
id_code (ZeroId k) = 3
id_code (RepeatedId k) = 4
id_code NoMemory = 6
