-- The report of a load as text, and when its audit is ok.
use Rattle.std.specs.Prelude.{◌≡◌, ℕ, ◌+◌, List, ◌++◌, codes, if◌then◌else◌}
use Rattle.byte_writer.specs.Rows.{row}
use Rattle.program_words.specs.Lines.{all_of}
use Rattle.program_words.specs.declared.plan.Plan.{Plan}
use Rattle.queue_load.specs.declared.report.Report.{Report}

-- the nine lines of a report
unfoldable pub report_text : Report → List ℕ
report_text r =
    row (codes "workers") r.workers ++ row (codes "pushed") r.pushed ++ row (codes "got") r.got ++ row (codes "empty") r.empty
    ++ row (codes "left") r.left ++ row (codes "lines") r.lines
    ++ row (codes "sum in") r.sum_in ++ row (codes "sum out and left") r.sum_out_and_left
    ++ (if r.audit then codes "audit ok\n" else codes "audit failed\n")

-- The numbers of a report fit each other, and what its workers were to do.
pub record AddsUp (plan : Plan) (r : Report) : Type 0 where
  pub pushed : r.pushed ≡ all_of plan plan.pushes
  pub popped : r.got + r.empty ≡ all_of plan plan.pops
  pub left : r.got + r.left ≡ r.pushed
  pub lines : r.lines ≡ r.pushed + r.got + r.empty
  pub sums : r.sum_in ≡ r.sum_out_and_left
