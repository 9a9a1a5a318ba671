-- The lockers that threads get.
use Rattle.std.specs.Prelude.{◌≡◌, ℕ, List, slice_get, Some}
use Rattle.readme_examples.specs.declared.lockers.Locker.{Locker}

-- each locker has the number of its place
abbrev pub AreNumbered : List Locker → Type 0
AreNumbered lockers = (place : ℕ) (locker : Locker) → slice_get lockers place ≡ Some locker → locker.number ≡ place
