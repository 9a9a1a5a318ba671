use Rattle.desk_core.proofs.Dealt.{leaders_note}
use Rattle.desk_core.proofs.Journals.{QueueLaws}
use Rattle.desk_core.proofs.PostedAnswers.{posted_are_answered}
use Rattle.desk_core.proofs.OwnAnswers.{leaders_know, answers_stay_known}
use Rattle.desk_core.proofs.Moves.{answers_stay}
use Rattle.desk_core.proofs.laws.law_posted_are_answered.Goals as goal

pub returns : goal.returns
returns c =
    let line = c.law_one_more_line.ensures in
    let items = c.law_items_stay_in_range.ensures in
    let laws : QueueLaws = record { enters = line.entries; legal = line.legal; rise = line.rise; entries = items.entries; reply = items.reply; heeds = c.law_shut.ensures.heeds } in
    record { answered = posted_are_answered laws; stay = answers_stay; known = leaders_know laws; stay_known = answers_stay_known; noted = leaders_note laws }
