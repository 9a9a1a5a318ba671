use Rattle.announce_board.proofs.Ends.{dealing_allowed}
use Rattle.announce_board.proofs.NoteSteps.{catch_up_allowed, writing_allowed, hearing_allowed}
use Rattle.announce_board.proofs.SleepSteps.{sleep_allowed, wake_allowed}
use Rattle.announce_board.proofs.TestimonySteps.{testify_allowed, retire_allowed, gather_allowed, compare_allowed}
use Rattle.announce_board.proofs.running.law_cuts_and_joins_are_moves.Goals as goal

pub returns : goal.returns
returns g c =
    let kept = c.law_notes_keep_the_rule.ensures in
    let reached = c.law_reached_desks.ensures in
    let loaded = c.law_words_show_the_desk.ensures.loaded in
    record {
      catch_up = catch_up_allowed _ _ reached.goes_on kept.catch_up loaded;
      compare = compare_allowed _ _ c.law_testimonies.ensures.witnessed loaded;
      deals = dealing_allowed _ _ reached.goes_on c.law_desk_runs.ensures.dealing;
      writing = writing_allowed _ _ reached.goes_on kept.writing;
      hearing = hearing_allowed _ _ reached.goes_on kept.hearing;
      testify = testify_allowed _ _ reached.rule reached.goes_on;
      retire = retire_allowed _ _ reached.rule reached.goes_on;
      gather = gather_allowed _ _ reached.rule reached.goes_on;
      sleep = sleep_allowed _ _ reached.rule reached.goes_on;
      wake = wake_allowed _ _ reached.rule reached.goes_on;
    }
