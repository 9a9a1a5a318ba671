use Rattle.std.proofs.Common.{arith}
use Rattle.wait_list.proofs.Numbers.{below_at}
use Rattle.wait_list.proofs.list.woken_among.Goals as goal

pub with_number_if-mask-requires : goal.with_number_if-mask-requires
with_number_if-mask-requires c = below_at c.args.waiters.now c.loop-waiter.waiter-index _ c.requires.below (omega arith)
