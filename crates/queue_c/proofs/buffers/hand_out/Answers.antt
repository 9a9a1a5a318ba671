use Rattle.std.proofs.Common.{set, ap, ◌∙◌, arith}
use Rattle.queue_c.specs.Plain.{told_item}
use Rattle.queue_c.proofs.Copied.{copied_more}
use Rattle.queue_c.proofs.buffers.hand_out.Goals as goal

pub loop-i-preserved : goal.loop-i-preserved
loop-i-preserved c =
    ap (λ y. set c.loop-i.items c.loop-i.i y) c.tell_item.ensures
    ∙ copied_more told_item c.args.slots.now c.args.items.now c.loop-i.items c.loop-i.i c.index-slots-i.result
    (omega (arith, c.loop-i-test.true, c.requires.slots)) (omega (arith, c.loop-i-test.true, c.requires.buffer)) c.index-slots-i.is c.loop-i.invariant
