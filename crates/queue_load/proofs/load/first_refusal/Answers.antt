use Rattle.std.proofs.Common.{arith, below_more}
use Rattle.std.proofs.lemmas.Option.{slice_get_within}
use Rattle.queue_load.specs.Load.{HasRefused}
use Rattle.queue_load.proofs.Opening.{not_refused}
use Rattle.queue_load.proofs.load.first_refusal.Goals as goal

pub loop-index-preserved : goal.loop-index-preserved
loop-index-preserved g c =
    below_more (λ i. ¬ (HasRefused c.args.worked.now i)) c.loop-index.index c.loop-index.invariant (λ h. not_refused c.args.worked.now c.loop-index.index _ c.in_default.is h)

pub returns-clause-none : goal.returns-clause-none
returns-clause-none g c i h = c.loop-index.invariant i (omega (arith, slice_get_within c.args.worked.now i h.0 h.2)) h
