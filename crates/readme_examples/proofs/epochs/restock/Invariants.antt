use Rattle.std.proofs.Common.{◌≡◌, ◌++◌, map, length}
use Rattle.pq_types.specs.Entry.{item_of}
use Rattle.readme_examples.specs.Epochs.{pushed_by}
use Rattle.readme_examples.proofs.epochs.restock.Given as goal

-- what the member has pushed, and what is left in the store, is all that it had pushed and was there
abbrev pub invariant-loop-entry : goal.invariant-loop-entry
invariant-loop-entry g l = record {
  queue : l.handle.queue ≡ l.initial.handle.queue;
  whole : pushed_by l.handle.pen.mine ++ map item_of l.store.items ≡ pushed_by l.initial.handle.pen.mine ++ map item_of l.initial.store.items;
}

abbrev pub decreases-loop-entry : goal.decreases-loop-entry
decreases-loop-entry g l = length l.store.items
