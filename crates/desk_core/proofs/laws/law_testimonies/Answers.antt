use Rattle.desk_core.proofs.Journals.{QueueLaws}
use Rattle.desk_core.proofs.Witnessed.{testimonies_are_true, linearized_follow_time, refused_stand_nowhere}
use Rattle.desk_core.proofs.laws.law_testimonies.Goals as goal

pub returns : goal.returns
returns c =
    let line = c.law_one_more_line.ensures in
    let items = c.law_items_stay_in_range.ensures in
    let laws : QueueLaws = record { enters = line.entries; legal = line.legal; rise = line.rise; entries = items.entries; reply = items.reply; heeds = c.law_shut.ensures.heeds } in
    record { witnessed = testimonies_are_true laws; follow = linearized_follow_time; refused = refused_stand_nowhere }
