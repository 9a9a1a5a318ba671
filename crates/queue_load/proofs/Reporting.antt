-- A report that tells of a tally and of what is left is one of the journal that leaves so much.
use Rattle.std.proofs.Common.{◌≡◌, ℕ, List, length, ◌∙◌, ap, ◌+◌}
use Rattle.std.specs.List.{sum_by}
use Rattle.pq_types.specs.Item.{Item}
use Rattle.pq_types.specs.Asked.{Line}
use Rattle.pq_types.specs.History.{left}
use Rattle.queue_load.specs.Audit.{Tells, Reports}
use Rattle.queue_load.specs.declared.leftover.Leftover.{Leftover}
use Rattle.program_words.specs.declared.plan.Plan.{Plan}
use Rattle.queue_load.specs.declared.report.Report.{Report}
use Rattle.queue_load.specs.declared.tally.Tally.{Tally}

pub reports : (plan : Plan) (t : Tally) (l : Leftover) (lines : ℕ) (journal : List Line) (r : Report) → Tells plan t l lines r → l.count ≡ length (left journal) → l.sum ≡ sum_by (λ (x : Item). x.priority) (left journal) → lines ≡ length journal → Reports plan t journal r
reports plan t l lines journal r h count sum lines_are =
    record {
      workers_are = h.workers_are;
      pushed = h.pushed;
      got = h.got;
      empty = h.empty;
      left_is = h.left_is ∙ count;
      lines = h.lines_are ∙ lines_are;
      sum_in = h.sum_in;
      sum_out = h.sum_out ∙ ap (λ n. t.sum_out + n) sum;
      audit = h.audit;
    }
