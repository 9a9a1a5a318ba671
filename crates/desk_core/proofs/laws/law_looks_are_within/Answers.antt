use Rattle.desk_core.proofs.Journals.{QueueLaws}
use Rattle.desk_core.proofs.Looking.{every_run_linearizes_looks, every_dealt_run_linearizes_looks, looks_find_the_journal, looks_are_more}
use Rattle.desk_core.proofs.laws.law_looks_are_within.Goals as goal

pub returns : goal.returns
returns c =
    let line = c.law_one_more_line.ensures in
    let items = c.law_items_stay_in_range.ensures in
    let laws : QueueLaws = record { enters = line.entries; legal = line.legal; rise = line.rise; entries = items.entries; reply = items.reply; heeds = c.law_shut.ensures.heeds } in
    record { linearized = every_run_linearizes_looks laws; dealt = every_dealt_run_linearizes_looks laws; point = looks_find_the_journal; more = looks_are_more }
