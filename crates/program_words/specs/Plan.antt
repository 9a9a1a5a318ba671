-- What the workers of a load do: so many of them push the same number of items each, and then pop, in each of so many rounds.
-- The items are wide or narrow.
use Rattle.std.specs.Prelude.{ℕ, zero, suc, ◌+◌, ◌*◌, ◌%◌, ◌<◌, ◌≤◌, Bool, true, false, List, [], ◌++◌, map, sum}
use Rattle.std.specs.List.{range_with_len}
use Rattle.pq_types.specs.Item.{Item}
use Rattle.pq_types.specs.Asked.{Operation}
use Rattle.pq_types.specs.Operation.{Asked}
use Rattle.pq_types.specs.declared.request.Request.TheVariants.{Push, Pop}
use Rattle.program_words.specs.declared.plan.TheConstants.{MOST_WORKERS, MOST_PUSHES, MOST_ROUNDS}
use Rattle.program_words.specs.declared.plan.PlanError.{PlanError}
use Rattle.program_words.specs.declared.plan.PlanError.TheVariants.{OutOfRange, PopsExceedPushes}

-- 1 to 64 workers, each of which pushes 1 to 8,192 items and pops no more, in each of 1 to 1,000,000 rounds
pub record IsLoad (workers pushes pops rounds : ℕ) : Type 0 where
  pub some_workers : 0 < workers
  pub few_workers : workers ≤ MOST_WORKERS
  pub some_pushes : 0 < pushes
  pub few_pushes : pushes ≤ MOST_PUSHES
  pub fewer_pops : pops ≤ pushes
  pub some_rounds : 0 < rounds
  pub few_rounds : rounds ≤ MOST_ROUNDS

-- Why there is no such load: the number of workers or that of pushes is out of its range, or each was
-- to pop more items than it pushes.
abbrev pub IsNoLoad : ℕ → ℕ → ℕ → PlanError → Type 0
IsNoLoad workers pushes pops OutOfRange = ¬ ((0 < workers) × (workers ≤ MOST_WORKERS) × (0 < pushes) × (pushes ≤ MOST_PUSHES))
IsNoLoad workers pushes pops PopsExceedPushes = pushes < pops

-- a number of rounds that a load may have
abbrev pub AreRounds : ℕ → Type 0
AreRounds rounds = (0 < rounds) × (rounds ≤ MOST_ROUNDS)

-- each part of a wide item is that of the narrow one so many times, so that both its halves are that of the narrow one
abbrev pub part_factor : Bool → ℕ
part_factor true = 4294967297
part_factor false = 1

-- the priority of the item that the worker pushes behind so many others of a round
abbrev pub priority_of : Bool → ℕ → ℕ → ℕ
priority_of wide worker index = part_factor wide * ((7919 * index + 104729 * worker) % 1000003)

-- the item that the worker pushes behind so many others of a round
abbrev pub load_item : Bool → ℕ → ℕ → Item
load_item wide worker index = record { priority = priority_of wide worker index; value = part_factor wide * worker }

-- the requests of the worker in a round, in their order, as a journal has them: its items are pushed, and then it pops so many times
abbrev pub requests_of : Bool → ℕ → ℕ → ℕ → List Operation
requests_of wide worker pushes pops =
    map (λ index. Asked (Push (load_item wide worker index))) (range_with_len 0 pushes) ++ map (λ index. Asked Pop) (range_with_len 0 pops)

-- its requests in so many rounds, which are the same in each
abbrev pub all_requests : Bool → ℕ → ℕ → ℕ → ℕ → List Operation
all_requests wide worker pushes pops zero = []
all_requests wide worker pushes pops (suc rounds) =
    all_requests wide worker pushes pops rounds ++ requests_of wide worker pushes pops

-- the priorities of all items that the worker pushes in a round, in their order
abbrev pub priorities : Bool → ℕ → ℕ → List ℕ
priorities wide worker pushes = map (priority_of wide worker) (range_with_len 0 pushes)

-- the priorities of the items of all workers, 1 to the last, in a round, added up
abbrev pub sum_of_priorities : Bool → ℕ → ℕ → ℕ
sum_of_priorities wide workers pushes = sum (map (λ worker. sum (priorities wide worker pushes)) (range_with_len 1 workers))
