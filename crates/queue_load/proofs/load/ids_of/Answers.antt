use Rattle.std.proofs.Common.{arith}
use Rattle.queue_load.proofs.Opening.{ids_more}
use Rattle.queue_load.proofs.load.ids_of.Goals as goal

pub loop-earlier-preserved : goal.loop-earlier-preserved
loop-earlier-preserved c =
    let id = c.from.ensures in
    ids_more c.loop-earlier.ids.items c.push.new.self.items c.loop-earlier.earlier _ c.in_ok-push.ensures.items c.loop-earlier.invariant (omega (arith, id))
