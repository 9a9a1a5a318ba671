use Rattle.desk_core.proofs.ItemWords.{words_tell, mixed_by_word, words_mix}
use Rattle.desk_core.proofs.Stores.{lock_stored, control_stored, item_stored, loaded, read_back, zeros_are_fresh, cache_lines}
use Rattle.desk_core.proofs.laws.law_words_show_the_desk.Goals as goal

pub returns : goal.returns
returns c =
    let words = c.law_words_differ.ensures in
    record {
      lock_stored = lock_stored;
      control_stored = control_stored;
      item_stored = item_stored;
      loaded = loaded;
      read_back = read_back words.controls words.items;
      fresh = zeros_are_fresh;
      lines = cache_lines;
      tell_items = words_tell words.items;
      by_word = mixed_by_word words.items;
      mix = words_mix;
    }
