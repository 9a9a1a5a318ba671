use Rattle.std.proofs.Common.{◌≡◌, ◌<◌, ◌≢◌, ◌+◌, ◌/◌, refl, ◌∙◌, ⊎_elim, length, arith}
use lib.ListN.{length-set}
use Rattle.core.proofs.slice.Lists.{unmoved}
use Rattle.core.proofs.slots.Same.{in_place, still_in_place}
use Rattle.std.proofs.lemmas.List.Sorted.{IsPermutation-trans}
use Rattle.std_alloc.specs.Vec.Detached.{seen}
use Rattle.std_alloc.proofs.Permutation.{as_swapped, swap_shuffles}
use Rattle.leftist_heap.specs.Order.{by_rank}
use Rattle.leftist_heap.specs.Sifting.{StandsBefore}
use Rattle.leftist_heap.proofs.ByRank.{rank_order}
use Rattle.leftist_heap.proofs.Sifts.{rises, rests, tops}
use Rattle.leftist_heap.proofs.Depths.{deeper}
use Rattle.leftist_heap.proofs.Holes.{from_hole, onto_hole, swapped, as_long}
use Rattle.leftist_heap.proofs.placing.rise_from.Goals as goal

pub loop-hole-init : goal.loop-hole-init
loop-hole-init g c = record { hole = c.requires.hole; places = in_place _; permutation = unmoved _; rising = c.requires.rising; placed = λ h. h; counted = omega arith }

pub loop-hole-preserved : goal.loop-hole-preserved
loop-hole-preserved g c =
    let before = by_rank g.T.Exact.rank_of in
    let o = rank_order g.T.Exact.rank_of in
    let l = c.loop-hole in
    let inv = l.invariant in
    let x = c.args.item.now in
    let up = (l.hole + 6) / 8 in
    let items = l.row.items in
    let new = c.move_marked.new.row in
    let xs = seen l.row l.hole x in
    let ys = seen new up x in
    let moved = c.move_marked.ensures in
    let counted : l.row.len ≡ length items = l.row.ok.0 in
    let within : l.hole < l.row.len = inv.hole.within in
    let long : length xs ≡ length items = length-set items l.hole x in
    let down : up < l.hole = omega arith in
    let apart : up ≢ l.hole = omega arith in
    let low : StandsBefore before xs l.hole up = ⊎_elim
    (λ u. from_hole before items l.hole up x c.get.result.now (omega arith) (omega arith) apart c.get.ensures u.1)
    (λ u. let e = c.if-not-is_lower.false in let f = u.0 in cc)
    c.is_lower.ensures.answer in
    let one = c.is_lower.ensures.counted in
    let depth = deeper l.hole c.loop-hole-test.true in
    let sofar = inv.counted in
    record {
      hole = moved.hole.0;
      places = still_in_place _ _ _ moved.hole.1 inv.places;
      permutation = IsPermutation-trans _ _ _ inv.permutation (swap_shuffles xs ys l.hole up (omega arith) (omega arith) moved.items);
      rising = rises before o xs ys up l.hole (swapped xs ys up l.hole (omega arith) (omega arith) (moved.items ∙ as_swapped xs l.hole up (omega arith)))
          (as_long xs ys l.hole up (omega arith) (omega arith) moved.items) c.loop-hole-test.true (omega arith) refl low inv.rising;
      placed = λ h. moved.placed (inv.placed h);
      counted = omega arith;
    }

pub returns-then-not-is_lower-clause-heap : goal.returns-then-not-is_lower-clause-heap
returns-then-not-is_lower-clause-heap g c =
    let before = by_rank g.T.Exact.rank_of in
    let l = c.loop-hole in
    let inv = l.invariant in
    let x = c.args.item.now in
    let up = (l.hole + 6) / 8 in
    let items = l.row.items in
    let counted : l.row.len ≡ length items = l.row.ok.0 in
    let within : l.hole < l.row.len = inv.hole.within in
    let apart : up ≢ l.hole = omega arith in
    let over : StandsBefore before (seen l.row l.hole x) up l.hole = ⊎_elim
    (λ u. let e = c.if-not-is_lower.true in let f = u.0 in cc)
    (λ u. onto_hole before items l.hole up x c.get.result.now (omega arith) (omega arith) apart c.get.ensures u.1)
    c.is_lower.ensures.answer in
    rests before (seen l.row l.hole x) l.hole up refl over inv.rising

pub returns-clause-heap : goal.returns-clause-heap
returns-clause-heap g c = tops (by_rank g.T.Exact.rank_of) _ c.loop-hole.hole (omega arith) c.loop-hole.invariant.rising

pub returns-then-not-is_lower-clause-counted : goal.returns-then-not-is_lower-clause-counted
returns-then-not-is_lower-clause-counted g c =
    let depth = deeper c.loop-hole.hole c.loop-hole-test.true in
    let one = c.is_lower.ensures.counted in
    let sofar = c.loop-hole.invariant.counted in
    omega arith
