use Rattle.flat_queue.proofs.Posts.{Laws}
use Rattle.flat_queue.proofs.TrailRounds.{trail_rounds_answer, trail_rounds_tell}
use Rattle.flat_queue.proofs.laws.law_trail_rounds.Goals as goal

pub returns : goal.returns
returns c =
    let core = c.law_all_runs.ensures in
    let desk = c.law_desk_runs.ensures in
    let lead = c.law_posted_are_answered.ensures in
    let laws : Laws =
    record {
      doors_stay = core.stays_closed;
      doors_behind = core.ways_closed;
      scans = core.scans;
      stopped = core.stays_stopped;
      keeps = desk.keeps;
      rule = desk.rule;
      one_acts = desk.one_acts;
      answered = lead.answered;
      stay = lead.stay;
      known = lead.known;
      stay_known = lead.stay_known;
    } in
    let finds = c.law_trail_reads.ensures.closed in
    record { rounds = trail_rounds_answer laws finds; own = trail_rounds_tell laws finds }
