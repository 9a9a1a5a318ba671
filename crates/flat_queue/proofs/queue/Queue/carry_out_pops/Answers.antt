use Rattle.desk_core.specs.Words.{word_number}
use Rattle.flat_queue.specs.Batches.{IsPop}
use Rattle.flat_queue.proofs.Together.{carries_batch, enters_together}
use Rattle.flat_queue.proofs.queue.Queue.carry_out_pops.Goals as goal

pub returns-clause-together : goal.returns-clause-together
returns-clause-together g c =
    let served = c.serve_others-served in
    enters_together (word_number g.P.Part.wide) _ _ _ IsPop _ c.requires.idle
    (carries_batch (word_number g.P.Part.wide) served.result.read.posted _ c.lead.new.member served.new.member _ c.in_ok-lead.lead.book _ _ _ c.in_ok-lead.ensures.stays c.in_ok-lead.ensures.wins served.ensures.sweeps c.pop_and_release.ensures.releases)
