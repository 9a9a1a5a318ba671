-- A pop takes the root out.
use Rattle.std.proofs.Common.{rules, arith, ◌≡◌, ◌∷◌}
use Rattle.leftist_heap.specs.Order.{not_above_by}
use Rattle.leftist_heap.specs.Tree.{content_of}
use Rattle.leftist_heap.specs.Node.{tree_of}
use Rattle.leftist_heap.proofs.Heaps.{size_popped, low_ranks_below}
use Rattle.leftist_heap.proofs.leftist.Leftist.pop.Goals as goal

pub invariant_of-self-2 : goal.invariant_of-self-2
invariant_of-self-2 g c =
    let popped : content_of (not_above_by g.T.Ord.cmp) (tree_of c.self.inside.root)
    ≡ c.in_ok-item.item ∷ content_of (not_above_by g.T.Ord.cmp) (tree_of c.take_root.new.heap) = search rules in
    let less = size_popped (not_above_by g.T.Ord.cmp) (tree_of c.self.inside.root) (tree_of c.take_root.new.heap) c.in_ok-item.item popped in
    (c.take_root.ensures.lawful, omega arith, omega arith)

pub returns-clause-few : goal.returns-clause-few
returns-clause-few g c =
    let low = low_ranks_below (not_above_by g.T.Ord.cmp) (tree_of c.self.inside.root) c.self.invariant.0.leftist (omega arith) in
    let counted = c.take_root.ensures.counted in
    omega arith
