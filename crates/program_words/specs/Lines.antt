-- How many lines a load needs.
use Rattle.std.specs.Prelude.{ℕ, ◌+◌, ◌*◌, ◌≤◌}
use Rattle.pq_types.specs.declared.journal.TheConstants.{MOST_LINES}
use Rattle.program_words.specs.declared.plan.Plan.{Plan}

-- what the workers do in all rounds, of which each does so much in one
abbrev pub all_of : Plan → ℕ → ℕ
all_of plan each = plan.workers * (plan.rounds * each)

-- each request takes a line
abbrev pub lines_of : Plan → ℕ
lines_of plan = all_of plan (plan.pushes + plan.pops)

-- the queue of this load is a short one, whose journal is kept whole
abbrev pub IsShort : Plan → Type 0
IsShort plan = lines_of plan ≤ MOST_LINES

-- the requests of each worker in all rounds
abbrev pub each_of : Plan → ℕ
each_of plan = plan.rounds * (plan.pushes + plan.pops)
