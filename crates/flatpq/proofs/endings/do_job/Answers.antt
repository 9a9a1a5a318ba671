use Rattle.flatpq.proofs.Printing.{prints, same_contents}
use Rattle.flatpq.proofs.endings.do_job.Goals as goal

pub returns-clause-ran : goal.returns-clause-ran
returns-clause-ran g c read known =
    let run = c.run_job-ending.ensures read known in
    let contents = g.O.Write.contents in
    let tell = c.tell_ending-status in
    let told = same_contents contents c.run_job-ending.new.output tell.new.output _ tell.ensures.output in (
      c.run_job-ending.result.0,
      run.0,
      run.2,
      tell.ensures.status,
      prints (contents c.args.outputs.now.output) (contents c.run_job-ending.new.output) (contents tell.new.output) c.args.job read _ c.run_job-ending.result.0 c.run_job-ending.result.1 run.0 tell.result run.2 run.1 told
          tell.ensures.report tell.ensures.cut tell.ensures.audit tell.ensures.audit_cut,
    )
