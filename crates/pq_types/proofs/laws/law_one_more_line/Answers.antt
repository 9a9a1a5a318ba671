use Rattle.pq_types.proofs.History.{left_more, entries_more, legal_more, rise_more, last_serial-snoc, length-left, left_ascending}
use Rattle.pq_types.proofs.laws.law_one_more_line.Goals as goal

pub returns : goal.returns
returns c =
    record {
      left = left_more;
      entries = entries_more;
      legal = legal_more;
      rise = rise_more;
      last_serial = last_serial-snoc;
      length = length-left;
      ascending = left_ascending;
    }
