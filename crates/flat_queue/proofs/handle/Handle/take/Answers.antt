use Rattle.std.proofs.Common.{◌∙◌}
use Rattle.flat_queue.proofs.Takings.{takes_idle}
use Rattle.flat_queue.proofs.handle.Handle.take.Goals as goal

pub invariant_of-self : goal.invariant_of-self
invariant_of-self g c =
    let h = takes_idle _ _ c.self.inside.member c.take.new.member c.take.result c.self.invariant.1 c.take.ensures.takes in
    (h.0 ∙ c.self.invariant.0, h.1)
