use Rattle.queue_texts.proofs.walk.open.Goals as goal

pub returns-in-Ok-new-clause-ok : goal.returns-in-Ok-new-clause-ok
returns-in-Ok-new-clause-ok g c = (c.in-Ok-new.ensures.opens, c.in-Ok-new.ensures.ok)
