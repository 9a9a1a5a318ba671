-- How a caller rests between two turns in vain.
use Rattle.std.specs.Prelude.{◌≡◌, ℕ, ◌+◌, ◌*◌, ◌-◌, ◌<◌, ◌⊎◌, min, max, Some, None}
use Rattle.flat_queue.specs.declared.resting.Rest.{Rest}
use Rattle.flat_queue.specs.declared.resting.Naps.{Naps}
use Rattle.flat_queue.specs.declared.resting.Pause.{Pause}
use Rattle.flat_queue.specs.declared.resting.Pause.TheVariants.{Spin, Yield, Nap}

-- how the calls of a member rest that was told nothing: they try the lock again 32 times, and then nap, 8 microseconds for each who
-- has joined, and 50 at least
abbrev pub default_rest : Rest
default_rest = record { tries = 32; spins = 0; yields = 0; naps = Some (record { next = 50; longest = 50; each = 8 }) }

-- how many microseconds the next of these naps takes by itself: never more than the longest
abbrev pub own_nap : Naps → ℕ
own_nap naps = min naps.next naps.longest

-- how many it takes where so many have joined: at least so many for each of them
abbrev pub nap_of : ℕ → Naps → ℕ
nap_of joined naps = max (naps.each * joined) (own_nap naps)

-- the naps behind the next one: the first of them is twice as long, or the longest
abbrev pub naps_behind : Naps → Naps
naps_behind naps = record naps { next = min (2 * own_nap naps) naps.longest }

-- how a call rests that only tries the lock, and posts nothing: its tries are spins before all others
abbrev pub rest_of_tries : Rest → Rest
rest_of_tries rest = record rest { spins = min (rest.spins + rest.tries) 4294967295 }

-- One pause of a caller that rests so, where so many have joined, and how it rests thereafter: it spins while it
-- has spins left, then yields while it has yields left, and then takes the next nap; one that has no naps yields on.
abbrev pub Pauses : ℕ → Rest → Pause → Rest → Type 0
Pauses joined rest Spin after = (0 < rest.spins) × (after ≡ record rest { spins = rest.spins - 1 })
Pauses joined rest Yield after =
    (rest.spins ≡ 0) × (((0 < rest.yields) × (after ≡ record rest { yields = rest.yields - 1 }))
    ⊎ ((rest.yields ≡ 0) × (rest.naps ≡ None) × (after ≡ rest)))
Pauses joined rest (Nap microseconds) after =
    (rest.spins ≡ 0) × (rest.yields ≡ 0) × (naps : Naps) × (rest.naps ≡ Some naps) × (microseconds ≡ nap_of joined naps)
    × (after ≡ record rest { naps = Some (naps_behind naps) })
