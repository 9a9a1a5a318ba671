use Rattle.desk_core.proofs.Journals.{QueueLaws}
use Rattle.desk_core.proofs.Waiters.{WaitLaws, nobody_sleeps_beside_an_item, every_run_has_waiters, moves_keep_waiters}
use Rattle.desk_core.proofs.laws.law_nobody_sleeps_beside_an_item.Goals as goal

pub returns : goal.returns
returns c =
    let line = c.law_one_more_line.ensures in
    let items = c.law_items_stay_in_range.ensures in
    let laws : QueueLaws = record { enters = line.entries; legal = line.legal; rise = line.rise; entries = items.entries; reply = items.reply; heeds = c.law_shut.ensures.heeds } in
    let settles = c.law_settled.ensures in
    let same = c.law_same_waiters.ensures in
    let w : WaitLaws = record { settled_is = settles.settled; only = settles.only_wakes; changes = same.changes; goes_on = same.goes_on } in
    record { free = nobody_sleeps_beside_an_item w laws; runs = every_run_has_waiters w laws; moves = moves_keep_waiters w }
