use Rattle.queue_pool.specs.Pool.{IsIdleAt}
use Rattle.queue_pool.proofs.Pooled.{all_pushed}
use Rattle.queue_pool.proofs.pool.put_idle.Goals as goal

pub returns-clause-here : goal.returns-clause-here
returns-clause-here g c =
    all_pushed (IsIdleAt c.args.queue.now) c.push_reserved.new.self.items c.args.idle.now.items c.args.member c.push_reserved.ensures.items c.requires.here c.requires.is_idle
