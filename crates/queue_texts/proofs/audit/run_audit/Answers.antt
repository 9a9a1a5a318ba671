use Rattle.queue_texts.proofs.Spelled.{all_spelled, audited}
use Rattle.queue_texts.proofs.audit.run_audit.Goals as goal

pub returns-in-Ok-play_script : goal.returns-in-Ok-play_script
returns-in-Ok-play_script g c = λ input remaining.
    let run = c.in-Ok-play_script.ensures input remaining in (
      c.in-Ok-play_script.audit.replay.value.journal,
      all_spelled g.P.Part.wide (λ s. s.replay.value.journal) c.law_one_more_line.ensures.legal c.law_one_more_line.ensures.rise c.law_shut.ensures.heeds c.in-Ok.audit
          c.in-Ok-play_script.audit input run.0 _ c.in-Ok.ensures run.2,
      c.report_of.ensures.lawful,
      c.report_of.ensures.report,
    )

pub returns : goal.returns
returns g c = λ input remaining.
    let run = c.in-Err.ensures input remaining in
    audited g.P.Part.wide (λ s. s.replay.value.journal) c.law_one_more_line.ensures.legal c.law_one_more_line.ensures.rise c.law_shut.ensures.heeds c.in-Ok.audit input run.0 _
    c.in-Err.error c.in-Ok.ensures run.2
