use Rattle.std.proofs.Common.{◌≡◌, ◌+◌, slice_index_or}
use Rattle.core.specs.Mem.Slots.{slots_items}
use Rattle.leftist_heap.specs.Order.{by_rank}
use Rattle.leftist_heap.specs.Sifting.{IsLowest}
use Rattle.leftist_heap.proofs.sifting.lowest_from.Given as goal

abbrev pub invariant-loop-at : goal.invariant-loop-at
invariant-loop-at g l = record {
  lowest : IsLowest (by_rank g.T.Exact.rank_of) (slots_items l.row) l.from l.at l.low.step;
  item : l.low.item.now ≡ slice_index_or (slots_items l.row) l.low.step l.low.item.now;
  rank : l.low.rank ≡ g.T.Exact.rank_of l.low.item.now;
  counted : l.steps + l.from + 1 ≡ l.initial.steps + l.at;
}
