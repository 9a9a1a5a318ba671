-- A push merges with a node of its own.
use Rattle.std.proofs.Common.{rules, arith, ◌≡◌, length, ◌∙◌, ap}
use Rattle.leftist_heap.specs.Order.{with_item_by}
use Rattle.leftist_heap.specs.Order.{not_above_by}
use Rattle.leftist_heap.specs.Tree.{Tree, Heap, nothing, node, items_of}
use Rattle.leftist_heap.specs.Node.{tree_at, tree_of}
use Rattle.leftist_heap.proofs.Orders.{exact_order}
use Rattle.leftist_heap.proofs.Heaps.{size_seen, size_pushed, content_pushed}
use Rattle.leftist_heap.proofs.leftist.Leftist.push.Goals as goal

pub merge_into-requires-clause-room : goal.merge_into-requires-clause-room
merge_into-requires-clause-room g c =
    let size = size_seen (not_above_by g.T.Ord.cmp) (tree_of c.self.inside.root) c.args.self.now c.self.view_is in
    let alone : tree_at c.in_ok-node.node.value ≡ node c.args.item 1 nothing nothing = search rules in
    let one : length (items_of (tree_at c.in_ok-node.node.value)) ≡ 1 = ap (λ (t : Tree _). length (items_of t)) alone in
    omega arith

pub overflow_add-self : goal.overflow_add-self
overflow_add-self g c =
    let size = size_seen (not_above_by g.T.Ord.cmp) (tree_of c.self.inside.root) c.args.self.now c.self.view_is in
    search rules

pub invariant_of-self : goal.invariant_of-self
invariant_of-self g c =
    let size = size_seen (not_above_by g.T.Ord.cmp) (tree_of c.self.inside.root) c.args.self.now c.self.view_is in
    let alone : tree_at c.in_ok-node.node.value ≡ node c.args.item 1 nothing nothing = search rules in
    let more = size_pushed (not_above_by g.T.Ord.cmp) (tree_of c.self.inside.root) (tree_at c.in_ok-node.node.value)
    (tree_of c.merge_into.new.heap) c.args.item alone c.merge_into.ensures.merged in
    (c.merge_into.ensures.merged.lawful, omega arith, omega arith)

pub returns-clause-ok : goal.returns-clause-ok
returns-clause-ok g c =
    let o = exact_order g.T.Ord.cmp g.met.T.Ord.total g.met.T.Exact.equal_is_same in
    let alone : tree_at c.in_ok-node.node.value ≡ node c.args.item 1 nothing nothing = search rules in
    content_pushed (not_above_by g.T.Ord.cmp) o (tree_of c.self.inside.root) (tree_at c.in_ok-node.node.value)
    (tree_of c.merge_into.new.heap) c.args.item alone c.merge_into.ensures.merged
    ∙ ap (λ (h : Heap _). with_item_by (not_above_by g.T.Ord.cmp) c.args.item h.items) c.self.view_is
