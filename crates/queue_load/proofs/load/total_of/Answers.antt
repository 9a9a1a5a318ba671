use Rattle.std.proofs.Common.{◌∙◌, ap, sym, subst}
use Rattle.std.proofs.lemmas.Option.{slice_get-get_or}
use Rattle.queue_load.specs.Tally.{both, IsSmall}
use Rattle.queue_load.specs.declared.worker.EndedWorker.{EndedWorker}
use Rattle.queue_load.proofs.Totals.{total_more, small_share}
use Rattle.queue_load.proofs.load.total_of.Goals as goal

pub add-requires-clause-other : goal.add-requires-clause-other
add-requires-clause-other g c =
    let ws = c.args.worked.now in
    let i = c.loop-one.one-index in
    let share = c.requires.shares i _ (slice_get-get_or ws i c.one-item.result c.loop-one-test.true) in
    subst (λ (w : EndedWorker _ _). IsSmall w.tally) (sym c.one-item.is) (small_share _ c.args.plan _ c.args.plan.fits share)

pub loop-one-preserved : goal.loop-one-preserved
loop-one-preserved g c =
    let ws = c.args.worked.now in
    let i = c.loop-one.one-index in
    let share = c.requires.shares i _ (slice_get-get_or ws i c.one-item.result c.loop-one-test.true) in
    total_more ws i c.args.plan c.one-item.result c.loop-one.total c.add.new.self c.args.plan.fits c.loop-one-test.true share c.loop-one.invariant
    (c.add.ensures ∙ ap (λ (w : EndedWorker _ _). both c.loop-one.total w.tally) c.one-item.is)
