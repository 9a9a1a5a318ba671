use Rattle.std.proofs.Common.{rules}
use Rattle.queue_texts.specs.Report.{audit_text}
use Rattle.queue_texts.proofs.report.text_of.Goals as goal

pub returns : goal.returns
unfolding audit_text
returns c = search rules
