use Rattle.std.proofs.Common.{rules, ◌≡◌, true, false, not, refl, ap}
use Rattle.std.specs.Ordering.{is_gt}
use Rattle.std.proofs.lemmas.List.Sorted.{IsPartitionPoint-from_clause}
use Rattle.leftist_heap.specs.Order.{not_above_by}
use Rattle.leftist_heap.proofs.Orders.{exact_order}
use Rattle.leftist_heap.proofs.Ascending.{all-weaker}
use Rattle.leftist_heap.proofs.Descending.{partitioned, all-taken, all-dropped}
use Rattle.leftist_heap.proofs.sorted_vec.count_above.Goals as goal

pub returns-clause-above : goal.returns-clause-above
returns-clause-above g c =
    let cmp = g.T.Ord.cmp in
    let o = exact_order cmp g.met.T.Ord.total g.met.T.Exact.equal_is_same in
    let point = IsPartitionPoint-from_clause
    (λ y. is_gt (cmp y c.args.item.now)) c.args.descending.now c.partition_point.result c.partition_point.ensures.partitioned
    (partitioned (not_above_by cmp) o (λ y. is_gt (cmp y c.args.item.now)) c.args.descending.now c.args.item.now (λ y. refl) c.requires)
    (λ a r f h. search rules) in
    all-weaker _ _ (λ y h. ap not h) _ (all-taken (λ y. is_gt (cmp y c.args.item.now) ≡ true) _ _ point.0)

pub returns-clause-not_above : goal.returns-clause-not_above
returns-clause-not_above g c =
    let cmp = g.T.Ord.cmp in
    let o = exact_order cmp g.met.T.Ord.total g.met.T.Exact.equal_is_same in
    let point = IsPartitionPoint-from_clause
    (λ y. is_gt (cmp y c.args.item.now)) c.args.descending.now c.partition_point.result c.partition_point.ensures.partitioned
    (partitioned (not_above_by cmp) o (λ y. is_gt (cmp y c.args.item.now)) c.args.descending.now c.args.item.now (λ y. refl) c.requires)
    (λ a r f h. search rules) in
    all-weaker _ _ (λ y h. ap not h) _ (all-dropped (λ y. is_gt (cmp y c.args.item.now) ≡ false) _ _ point.1)
