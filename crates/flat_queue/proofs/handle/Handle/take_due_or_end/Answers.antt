use Rattle.std.proofs.Common.{◌∙◌}
use Rattle.flat_queue.proofs.Dues.{due_or_ends_idle}
use Rattle.flat_queue.proofs.handle.Handle.take_due_or_end.Goals as goal

pub invariant_of-self : goal.invariant_of-self
invariant_of-self g c =
    let h = due_or_ends_idle _ _ (g.R.TimeSource.may_tell c.args.rt.now) c.args.times c.args.deadline c.self.inside.member c.take_due_or_end.new.member c.take_due_or_end.result c.self.invariant.1 c.take_due_or_end.ensures in
    (h.0 ∙ c.self.invariant.0, h.1)
