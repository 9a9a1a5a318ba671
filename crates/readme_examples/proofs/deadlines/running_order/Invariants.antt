use Rattle.std.proofs.Common.{◌≡◌, ℕ, ◌+◌, ◌*◌, ◌++◌, length, take}
use Rattle.pq_types.specs.Queue.{IsAscending}
use Rattle.readme_examples.specs.Deadlines.{due_at}
use Rattle.readme_examples.proofs.deadlines.running_order.Given as goal

-- the jobs that have arrived, ordered, each on a line
abbrev pub invariant-loop-job : goal.invariant-loop-job
invariant-loop-job l = record {
  ascending : IsAscending l.agenda.items;
  arrival : (deadline : ℕ) → due_at deadline l.agenda.items ≡ due_at deadline (take l.job-index l.jobs);
  count : length l.agenda.items ≡ l.job-index;
  lines : l.agenda.lines ≡ l.job-index;
  room : l.agenda.room ≡ 2 * length l.jobs + 1;
}

-- those that were taken out, and those that are left, are all of them, and there is a
-- line for each that is left, and one more
abbrev pub invariant-loop-order : goal.invariant-loop-order
invariant-loop-order l = record {
  whole : l.order.items ++ l.agenda.items ≡ l.initial.agenda.items;
  lines : l.agenda.lines + length l.agenda.items ≡ 2 * length l.jobs;
  room : l.agenda.room ≡ 2 * length l.jobs + 1;
}

abbrev pub decreases-loop-order : goal.decreases-loop-order
decreases-loop-order l = length l.agenda.items
