use Rattle.announce_board.proofs.Allows as allows
use Rattle.announce_board.proofs.StepLaws.{Laws}
use Rattle.announce_board.proofs.running.law_steps_are_moves.Goals as goal

pub returns : goal.returns
returns g c =
    let kept = c.law_each_step_keeps_the_rule.ensures in
    let words = c.law_words_show_the_desk.ensures in
    let laws : Laws = record {
      draft = kept.draft;
      post = kept.post;
      lead = kept.lead;
      miss = kept.miss;
      read = kept.read;
      read_item = kept.read_item;
      lay_item = kept.lay_item;
      answer = kept.answer;
      apply = kept.apply;
      archive = kept.archive;
      change = kept.change;
      hand_out = kept.hand_out;
      release = kept.release;
      release_by = kept.release_by;
      look = kept.look;
      see_item = kept.see_item;
      take_item = kept.take_item;
      due = kept.due;
      seated = kept.seated;
      clauses = c.law_desk_runs.ensures.holds;
      home = c.law_pens_know.ensures.home;
      leaders = c.law_pens_know.ensures.leaders;
      unknown = c.law_lines_are_beyond.ensures.unknown;
      lock_stored = words.lock_stored;
      control_stored = words.control_stored;
      item_stored = words.item_stored;
      loaded = words.loaded;
      read_back = words.read_back;
      controls_differ = c.law_words_differ.ensures.controls;
      by_word = words.by_word;
      mix = words.mix;
      goes_on = c.law_reached_desks.ensures.goes_on;
      limited = c.law_archiving.ensures.runs;
      rise = c.law_archiving.ensures.rise;
      waited = c.law_nobody_sleeps_beside_an_item.ensures.runs;
    } in
    record {
      draft = allows.draft_allowed laws _ _;
      post = allows.post_allowed laws _ _;
      read_lock = allows.read_lock_allowed laws _ _;
      try_lock = allows.try_allowed laws _ _;
      read_mail = allows.read_mail_allowed laws _ _;
      read_item = allows.read_item_allowed laws _ _;
      lay_item = allows.lay_item_allowed laws _ _;
      answer = allows.answer_allowed laws _ _;
      apply = allows.apply_allowed laws _ _;
      archive = allows.archive_allowed laws _ _;
      change = allows.change_allowed laws _ _;
      hand_out = allows.hand_out_allowed laws _ _;
      release = allows.release_allowed laws _ _;
      release_looks = allows.release_looks laws _ _;
      release_with = allows.release_with_allowed laws _ _;
      look = allows.look_allowed laws _ _;
      see_item = allows.see_allowed laws _ _;
      take_item = allows.take_allowed laws _ _;
    }
