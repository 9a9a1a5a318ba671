use Rattle.desk_core.proofs.Journals.{QueueLaws}
use Rattle.desk_core.proofs.Archiving.{moves_keep_limits, every_run_has_limits, limits_rise, page_is_allowed}
use Rattle.desk_core.proofs.laws.law_archiving.Goals as goal

pub returns : goal.returns
returns c =
    let line = c.law_one_more_line.ensures in
    let items = c.law_items_stay_in_range.ensures in
    let laws : QueueLaws = record { enters = line.entries; legal = line.legal; rise = line.rise; entries = items.entries; reply = items.reply; heeds = c.law_shut.ensures.heeds } in
    record { runs = every_run_has_limits laws; moves = moves_keep_limits; rise = limits_rise; page = page_is_allowed }
