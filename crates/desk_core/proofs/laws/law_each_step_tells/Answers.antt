use Rattle.desk_core.proofs.Tells as told
use Rattle.desk_core.proofs.laws.law_each_step_tells.Goals as goal

pub returns : goal.returns
returns c =
    record {
      draft = told.draft_tells;
      post = told.post_tells;
      try_lock = told.try_tells;
      read = told.read_tells;
      read_item = told.read_item_tells;
      lay_item = told.lay_item_tells;
      answer = told.answer_tells;
      apply = told.apply_tells;
      archive = told.archive_tells;
      change = told.change_tells;
      hand_out = told.hand_out_tells;
      release = told.release_tells;
      release_by = told.release_by_tells;
      look = told.look_tells;
      see_item = told.see_item_tells;
      take_item = told.take_item_tells;
    }
