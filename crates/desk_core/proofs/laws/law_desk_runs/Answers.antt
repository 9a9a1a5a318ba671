use Rattle.desk_core.proofs.Acting.{each_step_is_one_pens}
use Rattle.desk_core.proofs.Clauses.{rule_gives_clauses, clauses_meet, items_are_stored}
use Rattle.desk_core.proofs.Journals.{QueueLaws}
use Rattle.desk_core.proofs.Runs.{openings_meet, runs_meet, steps_keep}
use Rattle.desk_core.proofs.Splits.{dealing_keeps}
use Rattle.desk_core.proofs.laws.law_desk_runs.Goals as goal

pub returns : goal.returns
returns c =
    let line = c.law_one_more_line.ensures in
    let items = c.law_items_stay_in_range.ensures in
    let laws : QueueLaws = record { enters = line.entries; legal = line.legal; rise = line.rise; entries = items.entries; reply = items.reply; heeds = c.law_shut.ensures.heeds } in
    record {
      openings = openings_meet;
      keeps = steps_keep laws;
      dealing = dealing_keeps;
      rule = runs_meet laws;
      holds = rule_gives_clauses;
      clauses = clauses_meet laws;
      one_acts = each_step_is_one_pens;
      stored = items_are_stored;
    }
