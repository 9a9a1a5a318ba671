-- The jobs of a scheduler.
use Rattle.std.specs.Prelude.{ℕ, ◌==◌, List, filter}
use Rattle.pq_types.specs.Item.{Item}

-- the jobs of this deadline, in their order
abbrev pub due_at : ℕ → List Item → List Item
due_at deadline jobs = filter (λ job. job.priority == deadline) jobs
