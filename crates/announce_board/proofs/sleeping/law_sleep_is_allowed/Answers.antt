use Rattle.announce_board.proofs.SleepSteps.{sleep_allowed, wake_allowed}
use Rattle.announce_board.proofs.sleeping.law_sleep_is_allowed.Goals as goal

pub returns : goal.returns
returns g c =
    let reached = c.law_reached_desks.ensures in
    record {
      sleep = λ room terms places slots id m is new s k at. (sleep_allowed _ _ reached.rule reached.goes_on room terms places slots id m is new s k at).0;
      wake = λ room terms places id v other w n is it some_left s k at ne there. (wake_allowed _ _ reached.rule reached.goes_on room terms places id v other w n is it some_left s k at ne there).0;
    }
