use Rattle.desk_core.proofs.Journals.{QueueLaws}
use Rattle.desk_core.proofs.Reached.{reached_meet, moves_reach}
use Rattle.desk_core.proofs.laws.law_reached_desks.Goals as goal

pub returns : goal.returns
returns c =
    let line = c.law_one_more_line.ensures in
    let items = c.law_items_stay_in_range.ensures in
    let laws : QueueLaws = record { enters = line.entries; legal = line.legal; rise = line.rise; entries = items.entries; reply = items.reply; heeds = c.law_shut.ensures.heeds } in
    record { rule = reached_meet laws; goes_on = moves_reach }
