use Rattle.std.proofs.Common.{rules}
use Rattle.queue_load.specs.Report.{report_text}
use Rattle.queue_load.proofs.report.text_of.Goals as goal

pub returns : goal.returns
unfolding report_text
returns c = search rules
