use Rattle.flat_queue.proofs.Misses.{missed_on}
use Rattle.flat_queue.proofs.Together.{together_behind}
use Rattle.flat_queue.proofs.queue.Queue.push_all.Goals as goal

-- one try more that found the lock held
pub loop-preserved : goal.loop-preserved
loop-preserved g c = missed_on c.args.member.now c.loop.member c.carry_out_pushes.new.member c.loop.invariant c.in_default.ensures.held

pub returns-in-Some-carry_out_pushes-clause-together : goal.returns-in-Some-carry_out_pushes-clause-together
returns-in-Some-carry_out_pushes-clause-together g c =
    together_behind c.args.member.now c.loop.member c.carry_out_pushes.new.member c.loop.invariant.tries _ c.in-Some-carry_out_pushes.batch c.loop.invariant.misses c.in-Some-carry_out_pushes.ensures.together
