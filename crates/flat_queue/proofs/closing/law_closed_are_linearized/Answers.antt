use Rattle.flat_queue.proofs.ClosedHistories.{closed_are_linearized}
use Rattle.flat_queue.proofs.closing.law_closed_are_linearized.Goals as goal

pub returns : goal.returns
returns c =
    closed_are_linearized c.law_calls_are_lines.ensures.lines c.law_dealt_runs_are_linearizable.ensures.linearizable c.law_times.ensures.timed c.law_times.ensures.whole
