use Rattle.std.proofs.Common.{◌+◌, ◌≤◌}
use Rattle.std.specs.List.Sorted.{IsPermutation}
use Rattle.core.specs.Mem.Slots.{SamePlaces}
use Rattle.std_alloc.specs.Vec.Detached.{HasHole, seen}
use Rattle.leftist_heap.specs.Order.{by_rank}
use Rattle.leftist_heap.specs.Sifting.{IsRising}
use Rattle.leftist_heap.specs.Depth.{depth_at}
use Rattle.leftist_heap.specs.Places.{IsPlacedBut}
use Rattle.leftist_heap.proofs.placing.rise_from.Given as goal

abbrev pub invariant-loop-hole : goal.invariant-loop-hole
invariant-loop-hole g l = record {
  hole : HasHole l.row l.hole;
  places : SamePlaces l.initial.row l.row;
  permutation : IsPermutation (seen l.initial.row l.initial.hole l.item) (seen l.row l.hole l.item);
  rising : IsRising (by_rank g.T.Exact.rank_of) (seen l.row l.hole l.item) l.hole;
  placed : IsPlacedBut g.T.HasTicket.ticket_of (g.P.Places.table l.initial.places) (seen l.initial.row l.initial.hole l.item) l.initial.hole
      → IsPlacedBut g.T.HasTicket.ticket_of (g.P.Places.table l.places) (seen l.row l.hole l.item) l.hole;
  counted : l.steps + depth_at l.hole ≤ l.initial.steps + depth_at l.initial.hole;
}

abbrev pub decreases-loop-hole : goal.decreases-loop-hole
decreases-loop-hole g l = l.hole
