use Rattle.std.proofs.Common.{◌≡◌, length, ap, arith}
use lib.ListN.{length-set}
use Rattle.core.proofs.slice.Lists.{unmoved}
use Rattle.core.proofs.slots.Same.{in_place, still_in_place}
use Rattle.std.proofs.lemmas.List.Sorted.{IsPermutation-trans}
use Rattle.std_alloc.specs.Vec.Detached.{seen}
use Rattle.std_alloc.proofs.Permutation.{swap_shuffles}
use Rattle.leftist_heap.specs.Order.{by_rank}
use Rattle.leftist_heap.specs.Sifting.{place_above}
use Rattle.leftist_heap.specs.Depth.{depth_at}
use Rattle.leftist_heap.proofs.Sifts.{sinks, sunk}
use Rattle.leftist_heap.proofs.Depths.{deeper}
use Rattle.leftist_heap.proofs.Holes.{beside_hole, swapped, as_long}
use Rattle.leftist_heap.proofs.placing.sink_from.Goals as goal

pub loop-hole-init : goal.loop-hole-init
loop-hole-init g c = record {
  below = c.requires.hole.1;
  hole = c.requires.hole.0;
  places = in_place _;
  permutation = unmoved _;
  sinking = c.requires.sinking;
  placed = λ h. h;
  counted = omega arith;
}

pub loop-hole-preserved : goal.loop-hole-preserved
loop-hole-preserved g c =
    let before = by_rank g.T.Exact.rank_of in
    let l = c.loop-hole in
    let inv = l.invariant in
    let x = c.args.item.now in
    let found = c.lowest_of_eight-low.ensures.lowest in
    let low = c.lowest_of_eight-low.result in
    let items = l.row.items in
    let xs = seen l.row l.hole x in
    let ys = seen c.move_marked.new.row low x in
    let counted : l.row.len ≡ length items = l.row.ok.0 in
    let same = inv.places.count in
    let len = c.len-len.ensures in
    let long : length xs ≡ length items = length-set items l.hole x in
    let moved = c.move_marked.ensures in
    let within = found.within in
    let below = inv.below in
    let over : place_above low ≡ l.hole = omega arith in
    let depth = deeper low (omega arith) in
    let seven = c.lowest_of_eight-low.ensures.counted in
    let sofar = inv.counted in
    record {
      below = omega arith;
      hole = moved.hole.0;
      places = still_in_place _ _ _ moved.hole.1 inv.places;
      permutation = IsPermutation-trans _ _ _ inv.permutation (swap_shuffles xs ys l.hole low (omega arith) (omega arith) moved.items);
      sinking = sinks before xs ys l.hole low (swapped xs ys l.hole low (omega arith) (omega arith) moved.items)
          (as_long xs ys l.hole low (omega arith) (omega arith) moved.items) (omega arith) (omega arith) (omega arith)
          (λ k first last e. beside_hole before items l.hole x low k (omega arith) (omega arith) (found.lowest k (omega arith) (omega arith))) inv.sinking;
      placed = λ h. moved.placed (inv.placed h);
      counted = omega (arith, ap depth_at over);
    }

pub returns-clause-permutation : goal.returns-clause-permutation
returns-clause-permutation g c =
    let l = c.loop-hole in
    let inv = l.invariant in
    let x = c.args.item.now in
    let low = c.lowest_from-low.result in
    let xs = seen l.row l.hole x in
    let ys = seen c.move_marked-2.new.row low x in
    let counted : l.row.len ≡ length l.row.items = l.row.ok.0 in
    let long : length xs ≡ length l.row.items = length-set l.row.items l.hole x in
    let hole = inv.hole.within in
    let within = c.lowest_from-low.ensures.lowest.within in
    IsPermutation-trans _ _ _ inv.permutation (swap_shuffles xs ys l.hole low (omega arith) (omega arith) c.move_marked-2.ensures.items)

pub returns-clause-rising : goal.returns-clause-rising
returns-clause-rising g c =
    let before = by_rank g.T.Exact.rank_of in
    let l = c.loop-hole in
    let inv = l.invariant in
    let x = c.args.item.now in
    let found = c.lowest_from-low.ensures.lowest in
    let low = c.lowest_from-low.result in
    let items = l.row.items in
    let xs = seen l.row l.hole x in
    let ys = seen c.move_marked-2.new.row low x in
    let counted : l.row.len ≡ length items = l.row.ok.0 in
    let same = inv.places.count in
    let len = c.len-len.ensures in
    let long : length xs ≡ length items = length-set items l.hole x in
    let moved = c.move_marked-2.ensures in
    let within = found.within in
    let below = inv.below in
    let hole = inv.hole.within in
    let size : length ys ≡ length xs = as_long xs ys l.hole low (omega arith) (omega arith) moved.items in
    sunk before ys low (λ k first last e. absurd (omega arith))
    (sinks before xs ys l.hole low (swapped xs ys l.hole low (omega arith) (omega arith) moved.items) size (omega arith) (omega arith) (omega arith)
    (λ k first last e. beside_hole before items l.hole x low k (omega arith) (omega arith) (found.lowest k (omega arith) (omega arith))) inv.sinking)

pub returns-clause-counted : goal.returns-clause-counted
returns-clause-counted g c =
    let l = c.loop-hole in
    let inv = l.invariant in
    let low = c.lowest_from-low.result in
    let within = c.lowest_from-low.ensures.lowest.within in
    let counted : l.row.len ≡ length l.row.items = l.row.ok.0 in
    let same = inv.places.count in
    let len = c.len-len.ensures in
    let below = inv.below in
    let over : place_above low ≡ l.hole = omega arith in
    let depth = deeper low (omega arith) in
    let few = c.lowest_from-low.ensures.counted in
    let sofar = inv.counted in
    omega (arith, ap depth_at over)
