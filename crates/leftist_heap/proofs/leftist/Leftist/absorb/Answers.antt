-- The other heap's items are put in.
use Rattle.std.proofs.Common.{rules, arith, ◌≡◌, ◌∙◌, ap, Option}
use Rattle.leftist_heap.specs.Order.{not_above_by, with_items_by}
use Rattle.leftist_heap.specs.Tree.{Heap, heap_of, content_of}
use Rattle.leftist_heap.specs.Node.{tree_of}
use Rattle.leftist_heap.proofs.Orders.{exact_order}
use Rattle.leftist_heap.proofs.Heaps.{size_seen, size_absorbed, content_absorbed}
use Rattle.leftist_heap.proofs.leftist.Leftist.absorb.Goals as goal

pub absorb_heap-requires-clause-room : goal.absorb_heap-requires-clause-room
absorb_heap-requires-clause-room g c =
    let taken : c.take.result ≡ c.other.inside.root = search rules in
    let seen : heap_of (not_above_by g.T.Ord.cmp) (tree_of c.take.result) ≡ c.args.other =
    ap (λ (r : Option _). heap_of (not_above_by g.T.Ord.cmp) (tree_of r)) taken ∙ c.other.view_is in
    let size = size_seen (not_above_by g.T.Ord.cmp) (tree_of c.self.inside.root) c.args.self.now c.self.view_is in
    let other = size_seen (not_above_by g.T.Ord.cmp) (tree_of c.take.result) c.args.other seen in
    omega arith

pub overflow_add-self : goal.overflow_add-self
overflow_add-self g c =
    let size = size_seen (not_above_by g.T.Ord.cmp) (tree_of c.self.inside.root) c.args.self.now c.self.view_is in
    let other = size_seen (not_above_by g.T.Ord.cmp) (tree_of c.other.inside.root) c.args.other c.other.view_is in
    search rules

pub invariant_of-self : goal.invariant_of-self
invariant_of-self g c =
    let taken : c.take.result ≡ c.other.inside.root = search rules in
    let seen : heap_of (not_above_by g.T.Ord.cmp) (tree_of c.take.result) ≡ c.args.other =
    ap (λ (r : Option _). heap_of (not_above_by g.T.Ord.cmp) (tree_of r)) taken ∙ c.other.view_is in
    let size = size_seen (not_above_by g.T.Ord.cmp) (tree_of c.self.inside.root) c.args.self.now c.self.view_is in
    let other = size_seen (not_above_by g.T.Ord.cmp) (tree_of c.take.result) c.args.other seen in
    let whole = size_seen (not_above_by g.T.Ord.cmp) (tree_of c.other.inside.root) c.args.other c.other.view_is in
    let both = size_absorbed (not_above_by g.T.Ord.cmp) (tree_of c.self.inside.root) (tree_of c.take.result)
    (tree_of c.absorb_heap.new.heap) c.absorb_heap.ensures.content in
    (c.absorb_heap.ensures.lawful, omega arith, omega arith)

pub returns-clause-items : goal.returns-clause-items
returns-clause-items g c =
    let o = exact_order g.T.Ord.cmp g.met.T.Ord.total g.met.T.Exact.equal_is_same in
    let taken : c.take.result ≡ c.other.inside.root = search rules in
    let seen : heap_of (not_above_by g.T.Ord.cmp) (tree_of c.take.result) ≡ c.args.other =
    ap (λ (r : Option _). heap_of (not_above_by g.T.Ord.cmp) (tree_of r)) taken ∙ c.other.view_is in
    content_absorbed (not_above_by g.T.Ord.cmp) o (tree_of c.self.inside.root) (tree_of c.take.result)
    (tree_of c.absorb_heap.new.heap) c.absorb_heap.ensures.content
    ∙ ap (λ (h : Heap _). with_items_by (not_above_by g.T.Ord.cmp) (content_of (not_above_by g.T.Ord.cmp) (tree_of c.take.result)) h.items)
    c.self.view_is
    ∙ ap (λ (h : Heap _). with_items_by (not_above_by g.T.Ord.cmp) h.items c.args.self.now.items) seen
