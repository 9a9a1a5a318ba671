use Rattle.announce_board.proofs.Ends.{opening_kept, dealing_allowed, ends_are_told}
use Rattle.announce_board.proofs.laws.law_opening_and_end.Goals as goal

pub returns : goal.returns
returns g c =
    let runs = c.law_desk_runs.ensures in
    let words = c.law_words_show_the_desk.ensures in
    record {
      opens = λ room terms places book small sized empty nobody is. (opening_kept _ _ runs.openings words.fresh room terms places book small sized empty nobody is).0;
      deals = λ room terms places id place known lt s k at. (dealing_allowed _ _ c.law_reached_desks.ensures.goes_on runs.dealing room terms places id place known lt s k at).0;
      ends = ends_are_told _ _ words.read_back c.law_pens_know.ensures.home c.law_each_step_keeps_the_rule.ensures.seated
          c.law_dealt_runs_are_linearizable.ensures.linearizable c.law_times.ensures.timed c.law_archiving.ensures.runs c.law_archiving.ensures.rise;
    }
