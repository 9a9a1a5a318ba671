-- The report of an audit: what the journal adds up to, and its text.
use Rattle.std.specs.Prelude.{◌≡◌, ℕ, ◌+◌, List, ◌++◌, length, codes}
use Rattle.byte_writer.specs.Rows.{row}
use Rattle.pq_types.specs.Asked.{Line}
use Rattle.pq_types.specs.History.{left}
use Rattle.queue_texts.specs.declared.report.AuditReport.{AuditReport}
use Rattle.queue_texts.specs.Sums.{sum_over, places_of, pushes, gots, empties, priority_in, priority_out, sum_priorities}

-- the report of this journal
pub record IsReportOf (journal : List Line) (r : AuditReport) : Type 0 where
  pub lines : r.lines ≡ length journal
  pub places : r.places ≡ places_of journal
  pub pushed : r.pushed ≡ sum_over (λ l. pushes l.operation) journal
  pub got : r.got ≡ sum_over (λ l. gots l.operation l.reply) journal
  pub empty : r.empty ≡ sum_over (λ l. empties l.operation l.reply) journal
  pub left_is : r.left ≡ length (left journal)
  pub sum_in : r.sum_in ≡ sum_over (λ l. priority_in l.operation l.reply) journal
  pub sum_out_and_left : r.sum_out_and_left
      ≡ sum_over (λ l. priority_out l.operation l.reply) journal + sum_priorities (left journal)

-- the nine lines of a report
unfoldable pub audit_text : AuditReport → List ℕ
audit_text r =
    row (codes "lines") r.lines ++ row (codes "places") r.places ++ row (codes "pushed") r.pushed ++ row (codes "got") r.got
    ++ row (codes "empty") r.empty ++ row (codes "left") r.left
    ++ row (codes "sum in") r.sum_in ++ row (codes "sum out and left") r.sum_out_and_left
    ++ codes "audit ok\n"
