-- The ids 1 to so many: they have no fault, and are the first of all.
use Rattle.std.proofs.Common.{◌≡◌, ℕ, ◌+◌, ◌<◌, ◌≤◌, List, length, take, get_or, ap, ◌∙◌, arith}
use Rattle.std.proofs.lemmas.List.FromFn.{length-map-range_with_len, get_or-map-range_with_len, take-map-range_with_len}
use Rattle.split_core.specs.declared.ids.IdError.{IdError}
use Rattle.split_core.specs.declared.ids.IdError.TheVariants as id
use Rattle.split_core.specs.Ids.{IsFault}
use Rattle.split_core.specs.declared.places.TheConstants.{MAX_COMERS}
use Rattle.queue_c.specs.Threads.{ids_of, AreThreads}

-- how many they are
counted : (n : ℕ) → length (ids_of n) ≡ n
counted n = length-map-range_with_len (λ k. k + 1) 0 n

-- the id at a position
numbered : (n k : ℕ) → k < n → get_or (ids_of n) k 0 ≡ k + 1
numbered n k within = get_or-map-range_with_len (λ k. k + 1) 0 n k k 0 within (omega arith)

pub no_fault : (threads : ℕ) → AreThreads threads → (fault : IdError) → ¬ IsFault (ids_of threads) fault
no_fault n are id.NoComers met = omega (arith, are.0, met, counted n)
no_fault n are id.TooManyComers met = omega (arith, are.1, met, counted n)
no_fault n are (id.ZeroId k) met =
    let within : k < n = omega (arith, met.0.within, counted n) in
    omega (arith, met.1, numbered n k within)
no_fault n are (id.RepeatedId k) met =
    let within : k < n = omega (arith, met.0.within, counted n) in
    let j = met.2.0 in
    let below : j < n = omega (arith, within, met.2.1) in
    omega (arith, met.2.1, met.2.2, numbered n k within, numbered n j below)
no_fault n are id.NoMemory met = met

-- the first of all ids are those of so many threads
pub first_ids : (n : ℕ) (ids : List ℕ) → n ≤ MAX_COMERS → ids ≡ ids_of MAX_COMERS → take n ids ≡ ids_of n
first_ids n ids few all = ap (take n) all ∙ take-map-range_with_len (λ k. k + 1) 0 MAX_COMERS n few
