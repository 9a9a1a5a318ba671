use Rattle.std.proofs.Common.{◌∙◌}
use Rattle.flat_queue.proofs.Misses.{missed_on}
use Rattle.flat_queue.proofs.Together.{together_behind}
use Rattle.flat_queue.proofs.queue.Queue.pop_all_up_to.Goals as goal

-- one try more that found the lock held
pub loop-preserved : goal.loop-preserved
loop-preserved g c = record {
  missed = missed_on c.args.member.now c.loop.member c.carry_out_pops.new.member c.loop.invariant.missed c.in_default.ensures.held;
  slots = c.carry_out_pops.ensures.slots ∙ c.loop.invariant.slots;
}

pub returns-in-Some-carry_out_pops-clause-together : goal.returns-in-Some-carry_out_pops-clause-together
returns-in-Some-carry_out_pops-clause-together g c =
    together_behind c.args.member.now c.loop.member c.carry_out_pops.new.member c.loop.invariant.missed.tries _ c.in-Some-carry_out_pops.popped.batch c.loop.invariant.missed.misses c.in-Some-carry_out_pops.ensures.together
