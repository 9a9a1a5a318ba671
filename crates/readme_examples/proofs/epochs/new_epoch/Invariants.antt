use Rattle.std.proofs.Common.{◌≡◌, ◌++◌, map, length}
use Rattle.pq_types.specs.Queue.{IsAscending}
use Rattle.pq_types.specs.History.{left}
use Rattle.pq_types.specs.Entry.{item_of}
use Rattle.readme_examples.proofs.epochs.new_epoch.Given as goal

-- the items that were moved, and those that are left in the store, are all of them; and each that
-- was moved has a line
abbrev pub invariant-loop-entry : goal.invariant-loop-entry
invariant-loop-entry l = record {
  whole : l.agenda.items ++ map item_of l.store.items ≡ left l.fn.old.journal;
  ascending : IsAscending (left l.fn.old.journal);
  lines : l.agenda.lines ≡ length l.agenda.items;
  room : l.agenda.room ≡ l.fn.lines;
}

abbrev pub decreases-loop-entry : goal.decreases-loop-entry
decreases-loop-entry l = length l.store.items
