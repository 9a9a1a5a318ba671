-- What a report says of the workers' tally and of the journal that they left.
use Rattle.std.specs.Prelude.{◌≡◌, ℕ, ◌+◌, ◌↔◌, IsTrue, List, length, sum_by}
use Rattle.pq_types.specs.Asked.{Line}
use Rattle.pq_types.specs.History.{left}
use Rattle.queue_load.specs.Report.{AddsUp}
use Rattle.queue_load.specs.declared.leftover.Leftover.{Leftover}
use Rattle.program_words.specs.declared.plan.Plan.{Plan}
use Rattle.queue_load.specs.declared.report.Report.{Report}
use Rattle.queue_load.specs.declared.tally.Tally.{Tally}

-- The report of the workers of a load: what they were answered is this tally, so much is left, and so many lines are entered.
pub record Tells (plan : Plan) (t : Tally) (l : Leftover) (lines : ℕ) (r : Report) : Type 0 where
  pub workers_are : r.workers ≡ plan.workers
  pub pushed : r.pushed ≡ t.pushed
  pub got : r.got ≡ t.got
  pub empty : r.empty ≡ t.empty
  pub left_is : r.left ≡ l.count
  pub lines_are : r.lines ≡ lines
  pub sum_in : r.sum_in ≡ t.sum_in
  pub sum_out : r.sum_out_and_left ≡ t.sum_out + l.sum
  pub audit : IsTrue r.audit ↔ AddsUp plan r

-- The report of the workers of a load: what they were answered is this tally, and this is the journal
-- of their queue.
pub record Reports (plan : Plan) (t : Tally) (journal : List Line) (r : Report) : Type 0 where
  pub workers_are : r.workers ≡ plan.workers
  pub pushed : r.pushed ≡ t.pushed
  pub got : r.got ≡ t.got
  pub empty : r.empty ≡ t.empty
  pub left_is : r.left ≡ length (left journal)
  pub lines : r.lines ≡ length journal
  pub sum_in : r.sum_in ≡ t.sum_in
  pub sum_out : r.sum_out_and_left ≡ t.sum_out + sum_by (λ x. x.priority) (left journal)
  pub audit : IsTrue r.audit ↔ AddsUp plan r
