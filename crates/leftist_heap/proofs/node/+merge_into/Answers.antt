-- The heap with the lower root takes the other into its right child.
use Rattle.std.proofs.Common.{rules, arith, ◌<◌, ◌^◌, length}
use Rattle.leftist_heap.specs.Order.{not_above_by}
use Rattle.leftist_heap.specs.Tree.{items_of}
use Rattle.leftist_heap.specs.Node.{tree_of}
use Rattle.leftist_heap.proofs.Orders.{exact_order}
use Rattle.leftist_heap.proofs.Ranks.{low_rank}
use Rattle.leftist_heap.proofs.Merges.{length-merge}
use Rattle.leftist_heap.proofs.Descents.{boxes, with_right, descended}
use Rattle.leftist_heap.proofs.node.+merge_into.Goals as goal

pub merge_into-requires : goal.merge_into-requires
merge_into-requires g t c κs within =
    let d = boxes (not_above_by g.T.Ord.cmp) c.args.heap.now c.in-Some.top c.args.other c.put_lower_first.new.first
    c.put_lower_first.new.second c.deref_mut.result.now c.in-Some.is c.put_lower_first.ensures.two c.deref_mut.ensures.value
    c.requires.lawful c.requires.other c.requires.room in
    let below = d.below in
    let beside = d.beside in
    let fewer = d.fewer in
    search rules

pub settle-requires-clause-low_left : goal.settle-requires-clause-low_left
settle-requires-clause-low_left g t c =
    let d = boxes (not_above_by g.T.Ord.cmp) c.args.heap.now c.in-Some.top c.args.other c.put_lower_first.new.first
    c.put_lower_first.new.second c.deref_mut.result.now c.in-Some.is c.put_lower_first.ensures.two c.deref_mut.ensures.value
    c.requires.lawful c.requires.other c.requires.room in
    rw (with_right (not_above_by g.T.Ord.cmp) c.deref_mut.result.now c.deref_mut-in-Some.result.now c.merge_into.new.heap
    c.deref_mut-in-Some.ensures.value) d.low

pub settle-requires-clause-low_right : goal.settle-requires-clause-low_right
settle-requires-clause-low_right g t c =
    let d = boxes (not_above_by g.T.Ord.cmp) c.args.heap.now c.in-Some.top c.args.other c.put_lower_first.new.first
    c.put_lower_first.new.second c.deref_mut.result.now c.in-Some.is c.put_lower_first.ensures.two c.deref_mut.ensures.value
    c.requires.lawful c.requires.other c.requires.room in
    let merged = c.merge_into.ensures.merged in
    let size = length-merge (not_above_by g.T.Ord.cmp) _ _ _ merged in
    let few : length (items_of (tree_of c.merge_into.new.heap)) < 2 ^ 32 = omega (arith, d.fewer) in
    rw (with_right (not_above_by g.T.Ord.cmp) c.deref_mut.result.now c.deref_mut-in-Some.result.now c.merge_into.new.heap
    c.deref_mut-in-Some.ensures.value) (low_rank (tree_of c.merge_into.new.heap) merged.lawful.leftist few)

pub returns-in-Some-clause-merged : goal.returns-in-Some-clause-merged
returns-in-Some-clause-merged g t c =
    let o = exact_order g.T.Ord.cmp g.met.T.Ord.total g.met.T.Exact.equal_is_same in
    let d = boxes (not_above_by g.T.Ord.cmp) c.args.heap.now c.in-Some.top c.args.other c.put_lower_first.new.first
    c.put_lower_first.new.second c.deref_mut.result.now c.in-Some.is c.put_lower_first.ensures.two c.deref_mut.ensures.value
    c.requires.lawful c.requires.other c.requires.room in
    descended (not_above_by g.T.Ord.cmp) o c.args.heap.now c.in-Some.top c.args.other c.put_lower_first.new.first
    c.put_lower_first.new.second c.deref_mut.result.now c.deref_mut-in-Some.result.now c.settle.new.node c.merge_into.new.heap
    c.in-Some.is c.put_lower_first.ensures.two c.deref_mut.ensures.value d c.put_lower_first.ensures.lower c.merge_into.ensures.merged
    (with_right (not_above_by g.T.Ord.cmp) c.deref_mut.result.now c.deref_mut-in-Some.result.now c.merge_into.new.heap
    c.deref_mut-in-Some.ensures.value)
    c.settle.ensures
