use Rattle.split_core.proofs.Trackers.{starts_lawful, stores_start}
use Rattle.split_core.proofs.tracker.Tracker.fresh.Goals as goal

pub returns-clause-lawful : goal.returns-clause-lawful
returns-clause-lawful c = starts_lawful c.args.comers c.requires.some c.requires.few

pub returns-clause-stores : goal.returns-clause-stores
returns-clause-stores c = stores_start c.args.comers
