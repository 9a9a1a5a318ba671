use Rattle.flatpq.proofs.Printing.{prints_report, same_contents}
use Rattle.flatpq.proofs.watching.do_watched.Goals as goal

pub returns-clause-ends : goal.returns-clause-ends
returns-clause-ends g c =
    let contents = g.O.Write.contents in
    let tell = c.tell_ending-status in
    let told = same_contents contents c.args.outputs.now.output tell.new.output _ tell.ensures.output in (
      c.run_either-loaded.ensures.0,
      c.run_either-loaded.result.0,
      c.run_either-loaded.ensures.1,
      c.run_either-loaded.ensures.2,
      tell.ensures.status,
      prints_report (contents c.args.outputs.now.output) (contents tell.new.output) c.run_either-loaded.result.0 tell.result told tell.ensures.report tell.ensures.cut,
    )
