use Rattle.std.proofs.Common.{arith}
use Rattle.split_core.proofs.Trackers.{IsLeast, next_row_is}
use Rattle.split_core.proofs.tracker.Tracker.next_row.Goals as goal

pub returns-clause-unread : goal.returns-clause-unread
returns-clause-unread c = c.least_row.ensures.set

pub returns-clause-within : goal.returns-clause-within
returns-clause-within c = c.requires.lawful.unread c.least_row.result c.least_row.ensures.set

pub returns-clause-next : goal.returns-clause-next
returns-clause-next c words st =
    let t = c.args.self in
    let least : IsLeast t.unread c.least_row.result = record { set = c.least_row.ensures.set; least = c.least_row.ensures.least } in
    next_row_is c.args.comers t.diagonal t.unread t.shut _
    (c.law_trail_reads.ensures.moments c.args.comers words (omega (arith, c.requires.lawful.inside))).rows st.rows c.least_row.result least
    (c.requires.lawful.unread c.least_row.result c.least_row.ensures.set)
