use Rattle.std.proofs.Common.{◌∙◌}
use Rattle.flat_queue.proofs.Dues.{due_idle}
use Rattle.flat_queue.proofs.handle.Handle.take_due.Goals as goal

pub invariant_of-self : goal.invariant_of-self
invariant_of-self g c =
    let h = due_idle _ _ (g.R.TimeSource.may_tell c.args.rt.now) c.args.times c.args.deadline c.self.inside.member c.take_due.new.member c.take_due.result c.self.invariant.1 c.take_due.ensures in
    (h.0 ∙ c.self.invariant.0, h.1)
