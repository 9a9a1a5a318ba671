-- How deep a heap in an array is.
use Rattle.std.specs.Prelude.{ℕ, zero, suc}
use Rattle.leftist_heap.specs.Sifting.{place_above}

-- how many places are above k, counted no further than the fuel lasts
abbrev pub places_above : ℕ → ℕ → ℕ
places_above zero k = 0
places_above (suc fuel) zero = 0
places_above (suc fuel) (suc k) = suc (places_above fuel (place_above (suc k)))

-- how many places are above k: each is before the one below it, so that k is fuel enough
abbrev pub depth_at : ℕ → ℕ
depth_at k = places_above k k
