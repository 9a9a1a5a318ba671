use Rattle.desk_core.proofs.Journals.{QueueLaws}
use Rattle.desk_core.proofs.Keeping as kept
use Rattle.desk_core.proofs.laws.law_each_step_keeps_the_rule.Goals as goal

pub returns : goal.returns
returns c =
    let line = c.law_one_more_line.ensures in
    let items = c.law_items_stay_in_range.ensures in
    let laws : QueueLaws = record { enters = line.entries; legal = line.legal; rise = line.rise; entries = items.entries; reply = items.reply; heeds = c.law_shut.ensures.heeds } in
    record {
      draft = kept.draft;
      post = kept.post;
      lead = kept.lead;
      miss = kept.miss;
      read = kept.read;
      read_item = kept.read_item;
      lay_item = kept.lay;
      answer = kept.answer laws;
      apply = kept.apply laws;
      archive = kept.archive;
      change = kept.change;
      hand_out = kept.hand_out;
      release = kept.release;
      release_by = kept.release_by laws;
      look = kept.look;
      see_item = kept.see;
      take_item = kept.take;
      due = kept.due_is_new laws;
      seated = kept.seated;
    }
