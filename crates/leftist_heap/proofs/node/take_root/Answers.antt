-- The root's item is the first, and its children have the rest.
use Rattle.std.proofs.Common.{◌∙◌, ◌+◌, ◌≤◌, sym, subst}
use Rattle.leftist_heap.specs.Order.{not_above_by}
use Rattle.leftist_heap.proofs.Orders.{exact_order}
use Rattle.leftist_heap.proofs.Heaps.{children_lawful, children_few, children_ranks, content_taken}
use Rattle.leftist_heap.proofs.node.take_root.Goals as goal

pub absorb_heap-requires-clause-lawful : goal.absorb_heap-requires-clause-lawful
absorb_heap-requires-clause-lawful g c = (children_lawful (not_above_by g.T.Ord.cmp) c.args.heap.now c.fill.new.place c.in_ok-root.root c.into_inner-item.result (sym c.take.ensures.value ∙ c.in_ok-root.was) c.into_inner-item.ensures c.fill.ensures c.requires.lawful).0

pub absorb_heap-requires-clause-other : goal.absorb_heap-requires-clause-other
absorb_heap-requires-clause-other g c = (children_lawful (not_above_by g.T.Ord.cmp) c.args.heap.now c.fill.new.place c.in_ok-root.root c.into_inner-item.result (sym c.take.ensures.value ∙ c.in_ok-root.was) c.into_inner-item.ensures c.fill.ensures c.requires.lawful).1

pub absorb_heap-requires-clause-room : goal.absorb_heap-requires-clause-room
absorb_heap-requires-clause-room g c = children_few (not_above_by g.T.Ord.cmp) c.args.heap.now c.fill.new.place c.in_ok-root.root c.into_inner-item.result (sym c.take.ensures.value ∙ c.in_ok-root.was) c.into_inner-item.ensures c.fill.ensures c.requires.room

pub returns-clause-some : goal.returns-clause-some
returns-clause-some g c =
    let o = exact_order g.T.Ord.cmp g.met.T.Ord.total g.met.T.Exact.equal_is_same in
    content_taken (not_above_by g.T.Ord.cmp) c.args.heap.now c.fill.new.place c.in_ok-root.root c.into_inner-item.result (sym c.take.ensures.value ∙ c.in_ok-root.was) c.into_inner-item.ensures c.fill.ensures o c.requires.lawful c.absorb_heap.new.heap c.absorb_heap.ensures.content

pub returns-clause-counted : goal.returns-clause-counted
returns-clause-counted g c =
    let ranks = children_ranks (not_above_by g.T.Ord.cmp) c.args.heap.now c.fill.new.place c.in_ok-root.root c.into_inner-item.result (sym c.take.ensures.value ∙ c.in_ok-root.was) c.into_inner-item.ensures c.fill.ensures in
    subst (λ k. c.absorb_heap.new.steps ≤ c.args.steps.now + k) (sym ranks) c.absorb_heap.ensures.counted
