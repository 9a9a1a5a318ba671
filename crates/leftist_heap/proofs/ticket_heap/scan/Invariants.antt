use Rattle.std.proofs.Common.{◌+◌, ◌≤◌}
use Rattle.leftist_heap.specs.Order.{not_above_by}
use Rattle.leftist_heap.specs.Places.{Finds}
use Rattle.leftist_heap.proofs.ticket_heap.scan.Given as goal

abbrev pub invariant-loop-at : goal.invariant-loop-at
invariant-loop-at g l = record {
  found : Finds g.T.HasTicket.ticket_of (not_above_by g.T.Ord.cmp) l.items l.at l.ticket l.found;
  counted : l.steps ≤ l.initial.steps + l.at;
}
