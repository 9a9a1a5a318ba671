-- After the pops there is no root.
use Rattle.std.proofs.Common.{◌∙◌}
use Rattle.leftist_heap.specs.Order.{not_above_by}
use Rattle.leftist_heap.proofs.Heaps.{no_root}
use Rattle.leftist_heap.proofs.leftist.Leftist.drop.Goals as goal

pub discard-requires : goal.discard-requires
discard-requires g c = no_root (not_above_by g.T.Ord.cmp) c.self.inside.root (c.self.view_is ∙ c.clear.ensures)
