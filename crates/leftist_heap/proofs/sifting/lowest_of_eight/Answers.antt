use Rattle.std.proofs.Common.{◌≡◌, ◌+◌, ◌≤◌, length, arith}
use Rattle.leftist_heap.specs.Order.{by_rank}
use Rattle.leftist_heap.proofs.ByRank.{rank_order}
use Rattle.leftist_heap.proofs.Holes.{single_spot, joined_spots}
use Rattle.leftist_heap.proofs.sifting.lowest_of_eight.Goals as goal

pub returns-clause-lowest : goal.returns-clause-lowest
returns-clause-lowest g c =
    let o = rank_order g.T.Exact.rank_of in
    let xs = c.args.row.now.items in
    let counted : c.args.row.now.len ≡ length xs = c.args.row.now.ok.0 in
    let n = c.args.from in
    let room : n + 8 ≤ c.args.row.now.len = c.requires.within in
    let one = single_spot (by_rank g.T.Exact.rank_of) o xs n in
    let two = joined_spots (by_rank g.T.Exact.rank_of) o xs n in
    let all = two n (n + 7) (n + 8) _ _ _ _ _ _ (omega arith)
    (two n (n + 6) (n + 7) _ _ _ _ _ _ (omega arith)
    (two n (n + 5) (n + 6) _ _ _ _ _ _ (omega arith)
    (two n (n + 4) (n + 5) _ _ _ _ _ _ (omega arith)
    (two n (n + 3) (n + 4) _ _ _ _ _ _ (omega arith)
    (two n (n + 2) (n + 3) _ _ _ _ _ _ (omega arith)
    (two n (n + 1) (n + 2) _ _ _ _ _ _ (omega arith)
    (one 0 n (n + 1) _ _ (omega arith) (omega arith) c.spot_at-low.ensures.step c.spot_at-low.ensures.item)
    (one 1 (n + 1) (n + 2) _ _ (omega arith) (omega arith) c.spot_at.ensures.step c.spot_at.ensures.item)
    c.lower_of-low.ensures.lower)
    (one 2 (n + 2) (n + 3) _ _ (omega arith) (omega arith) c.spot_at-2.ensures.step c.spot_at-2.ensures.item)
    c.lower_of-low-2.ensures.lower)
    (one 3 (n + 3) (n + 4) _ _ (omega arith) (omega arith) c.spot_at-3.ensures.step c.spot_at-3.ensures.item)
    c.lower_of-low-3.ensures.lower)
    (one 4 (n + 4) (n + 5) _ _ (omega arith) (omega arith) c.spot_at-4.ensures.step c.spot_at-4.ensures.item)
    c.lower_of-low-4.ensures.lower)
    (one 5 (n + 5) (n + 6) _ _ (omega arith) (omega arith) c.spot_at-5.ensures.step c.spot_at-5.ensures.item)
    c.lower_of-low-5.ensures.lower)
    (one 6 (n + 6) (n + 7) _ _ (omega arith) (omega arith) c.spot_at-6.ensures.step c.spot_at-6.ensures.item)
    c.lower_of-low-6.ensures.lower)
    (one 7 (n + 7) (n + 8) _ _ (omega arith) (omega arith) c.spot_at-7.ensures.step c.spot_at-7.ensures.item)
    c.lower_of-low-7.ensures.lower in
    all.0
