use Rattle.flat_queue.proofs.Misses.{HasMissed}
use Rattle.flat_queue.proofs.queue.Queue.wait_and_shut.Given as goal

abbrev pub invariant-loop : goal.invariant-loop
invariant-loop g l = HasMissed l.fn.member l.member
