use Rattle.queue_texts.proofs.Results.{succeeded}
use Rattle.queue_texts.proofs.WalkLemmas.{move_plays}
use Rattle.queue_texts.proofs.walk.play_move.Goals as goal

pub returns-clause-ok : goal.returns-clause-ok
returns-clause-ok g c =
    move_plays c.args.asked.kind c.args.asked.what c.args.asked.id _ _ c.in-Ok.open _ _ _ _ (succeeded _ _ c.if-is_err.ensures.value c.put_event.ensures.ok) c.in-Ok.ensures.ok c.in-Ok-make_move.ensures.ok
