use Rattle.std.proofs.Common.{◌∙◌}
use Rattle.flat_queue.proofs.Takings.{until_idle}
use Rattle.flat_queue.proofs.handle.Handle.take_until.Goals as goal

pub invariant_of-self : goal.invariant_of-self
invariant_of-self g c =
    let h = until_idle _ _ (g.R.TimeSource.may_tell c.args.rt.now) c.args.deadline c.self.inside.member c.take_until.new.member c.take_until.result c.self.invariant.1 c.take_until.ensures.takes in
    (h.0 ∙ c.self.invariant.0, h.1)
