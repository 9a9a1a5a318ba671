use Rattle.announce_board.proofs.ToldLemmas.{waiters_are_told, posts_are_new, dues_stand, above_the_last}
use Rattle.announce_board.proofs.laws.law_steps_tell.Goals as goal

pub returns : goal.returns
returns c =
    let holds = c.law_desk_runs.ensures.holds in
    let kept = c.law_each_step_keeps_the_rule.ensures in
    record { waiters = waiters_are_told holds c.law_calls_are_lines.ensures.rise c.law_lines_are_beyond.ensures.beyond; posts = posts_are_new kept.read kept.due; dues = dues_stand holds; last = above_the_last }
