use Rattle.desk_core.proofs.Journals.{QueueLaws}
use Rattle.desk_core.proofs.Positions.{every_run_is_whole}
use Rattle.desk_core.proofs.Times.{every_run_is_timed, times_order_calls}
use Rattle.desk_core.proofs.laws.law_times.Goals as goal

pub returns : goal.returns
returns c =
    let line = c.law_one_more_line.ensures in
    let items = c.law_items_stay_in_range.ensures in
    let laws : QueueLaws = record { enters = line.entries; legal = line.legal; rise = line.rise; entries = items.entries; reply = items.reply; heeds = c.law_shut.ensures.heeds } in
    record { timed = every_run_is_timed; whole = every_run_is_whole laws; order = times_order_calls laws }
