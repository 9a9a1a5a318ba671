use Rattle.desk_core.specs.Words.{word_number}
use Rattle.flat_queue.specs.Batches.{IsPushAt}
use Rattle.flat_queue.proofs.Together.{carries_batch, enters_together}
use Rattle.flat_queue.proofs.queue.Queue.carry_out_pushes.Goals as goal

pub returns-clause-together : goal.returns-clause-together
returns-clause-together g c =
    let served = c.serve_others-served in
    enters_together (word_number g.P.Part.wide) _ _ _ (IsPushAt c.args.items.now c.push_and_release.result.done) _ c.requires.idle
    (carries_batch (word_number g.P.Part.wide) served.result.read.posted _ c.lead.new.member served.new.member _ c.in_ok-lead.lead.book _ _ _ c.in_ok-lead.ensures.stays c.in_ok-lead.ensures.wins served.ensures.sweeps c.push_and_release.ensures.releases)
