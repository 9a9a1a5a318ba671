use Rattle.queue_pool.proofs.Pooled.{all_members, all_newcomers}
use Rattle.queue_pool.proofs.pool.Pool.close.Goals as goal

pub close_all-requires-clause-members : goal.close_all-requires-clause-members
close_all-requires-clause-members g c =
    (all_members c.in-Ok.queue _ _ _ c.moved_behind-members.result.items c.in-Ok.ensures.ok c.self.invariant.1 c.self.invariant.2 c.moved_behind-members.ensures).0

pub close_all-requires-clause-led_not : goal.close_all-requires-clause-led_not
close_all-requires-clause-led_not g c =
    (all_members c.in-Ok.queue _ _ _ c.moved_behind-members.result.items c.in-Ok.ensures.ok c.self.invariant.1 c.self.invariant.2 c.moved_behind-members.ensures).1

pub close_all-requires-clause-newcomers : goal.close_all-requires-clause-newcomers
close_all-requires-clause-newcomers g c =
    all_newcomers c.in-Ok.queue _ _ _ c.moved_behind.result.items c.in-Ok.ensures.ok c.self.invariant.6 c.self.invariant.0 c.moved_behind.ensures
