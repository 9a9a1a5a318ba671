use Rattle.std.proofs.Common.{arith}
use Rattle.wait_list.proofs.Counting.{count_step, one_at_most}
use Rattle.wait_list.proofs.waking.count_awake.Goals as goal

pub loop-waiter-preserved : goal.loop-waiter-preserved
loop-waiter-preserved c =
    record {
      so_far = count_step c.args.group c.args.waiters.now c.loop-waiter.waiter-index _ c.is_awake.result c.loop-waiter.count c.from-count.result
          c.loop-waiter-test.true c.is_awake.ensures c.from-count.ensures c.loop-waiter.invariant.so_far;
      fits = omega (arith, c.loop-waiter.invariant.fits, one_at_most c.is_awake.result c.from-count.result c.from-count.ensures);
    }
