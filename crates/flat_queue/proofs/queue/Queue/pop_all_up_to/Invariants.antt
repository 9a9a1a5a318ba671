use Rattle.std.proofs.Common.{◌≡◌, length}
use Rattle.flat_queue.proofs.Misses.{HasMissed}
use Rattle.flat_queue.proofs.queue.Queue.pop_all_up_to.Given as goal

abbrev pub invariant-loop : goal.invariant-loop
invariant-loop g l = record {
  missed : HasMissed l.fn.member l.member;
  slots : length l.into ≡ length l.fn.into;
}
