use Rattle.flat_queue.proofs.Misses.{missed_on}
use Rattle.flat_queue.proofs.queue.Queue.wait_and_shut.Goals as goal

-- one try more that found the lock held
pub loop-preserved : goal.loop-preserved
loop-preserved g c = missed_on c.args.member.now c.loop.member c.carry_out_shut.new.member c.loop.invariant c.in_default.ensures.held
