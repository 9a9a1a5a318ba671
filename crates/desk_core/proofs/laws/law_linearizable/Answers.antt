use Rattle.desk_core.proofs.Journals.{QueueLaws}
use Rattle.desk_core.proofs.LinearRuns.{every_run_is_linearizable, order_stays, lines_are_within_calls}
use Rattle.desk_core.proofs.laws.law_linearizable.Goals as goal

pub returns : goal.returns
returns c =
    let line = c.law_one_more_line.ensures in
    let items = c.law_items_stay_in_range.ensures in
    let laws : QueueLaws = record { enters = line.entries; legal = line.legal; rise = line.rise; entries = items.entries; reply = items.reply; heeds = c.law_shut.ensures.heeds } in
    record { linearizable = every_run_is_linearizable laws; stays = order_stays laws; within = lines_are_within_calls laws }
