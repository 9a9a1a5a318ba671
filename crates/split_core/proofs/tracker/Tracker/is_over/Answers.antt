use Rattle.split_core.proofs.Trackers.{over_is, on_is}
use Rattle.split_core.proofs.tracker.Tracker.is_over.Goals as goal

pub returns-then-self-eq0-clause-over : goal.returns-then-self-eq0-clause-over
returns-then-self-eq0-clause-over c z st = over_is c.args.comers c.args.self z st c.if-self-eq0.true

pub returns-clause-over : goal.returns-clause-over
returns-clause-over c z st = on_is c.args.comers c.next_row.result c.args.self z st c.next_row.ensures.unread c.next_row.ensures.within
