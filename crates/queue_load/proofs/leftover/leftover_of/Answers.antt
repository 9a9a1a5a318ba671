use Rattle.std.proofs.Common.{◌∙◌, ap, sym, subst}
use Rattle.pq_types.specs.Asked.{Line}
use Rattle.pq_types.specs.Operation.{request_of}
use Rattle.queue_load.specs.Leftover.{left_by, HoldsFor}
use Rattle.queue_load.proofs.Leftovers.{leftover_more, still_holds, still_roomy, all_left}
use Rattle.queue_load.proofs.leftover.leftover_of.Goals as goal

pub after_line-leftover-requires-clause-holds : goal.after_line-leftover-requires-clause-holds
after_line-leftover-requires-clause-holds g c =
    subst (λ (x : Line). HoldsFor c.loop-line.leftover (request_of x.operation) x.reply) (sym c.line-item.is)
    (still_holds c.args.lines.now c.loop-line.line-index c.line-item.result c.loop-line.leftover c.requires.legal c.loop-line-test.true c.loop-line.invariant)

pub loop-line-preserved : goal.loop-line-preserved
loop-line-preserved g c =
    let step = c.after_line-leftover.ensures in
    let after = step.after ∙ ap (λ (x : Line). left_by c.loop-line.leftover x.operation x.reply) c.line-item.is in
    leftover_more c.law_one_more_line.ensures.left c.law_one_more_line.ensures.entries c.args.lines.now c.loop-line.line-index c.line-item.result c.loop-line.leftover c.after_line-leftover.result c.requires.legal
    c.loop-line-test.true c.loop-line.invariant after step.count step.sum

pub after_line-leftover-requires-clause-room : goal.after_line-leftover-requires-clause-room
after_line-leftover-requires-clause-room g c = still_roomy c.args.lines.now _ c.loop-line.line-index c.loop-line.leftover c.loop-line-test.true c.requires.few c.loop-line.invariant

pub returns : goal.returns
returns g c =
    let (left, small) = all_left c.args.lines.now c.loop-line.line-index c.loop-line.leftover c.loop-line-test.false c.loop-line.auto.line-index-end c.requires.few c.loop-line.invariant in
    record { count = left.count; sum = left.sum; small = small }
