use Rattle.announce_board.proofs.Ends.{opening_kept}
use Rattle.announce_board.proofs.Traces.{traces_are_runs, journals_grow}
use Rattle.announce_board.proofs.running.law_traces_are_runs.Goals as goal

pub returns : goal.returns
returns g c =
    let looks = c.law_looks_are_within.ensures in
    let times = c.law_times.ensures in
    record {
      opens = opening_kept _ _ c.law_desk_runs.ensures.openings c.law_words_show_the_desk.ensures.fresh;
      runs = λ room terms places. traces_are_runs _ _ room terms places looks.dealt looks.more times.timed times.whole;
      grows = λ room terms places. journals_grow _ _ room terms places c.law_dealt_runs_are_linearizable.ensures.stays;
    }
