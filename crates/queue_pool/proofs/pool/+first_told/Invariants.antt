use Rattle.queue_pool.proofs.pool.+first_told.Given as goal

abbrev pub decreases-first_told : goal.decreases-first_told
decreases-first_told g l = l.turns
