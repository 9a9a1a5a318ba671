use Rattle.std.proofs.Common.{◌∙◌}
use Rattle.flat_queue.specs.Gathered.{licences_at}
use Rattle.flat_queue.proofs.Pens.{are_asleep, same_for_each}
use Rattle.flat_queue.proofs.opening.asleep.Goals as goal

pub returns-clause-asleep : goal.returns-clause-asleep
returns-clause-asleep g c = are_asleep c.args.desk.now.table c.args.desk.now.room c.args.pens.items c.in_ok-waiting.waiting.items c.requires c.in_ok-waiting.ensures.waiting

pub returns-clause-licences : goal.returns-clause-licences
returns-clause-licences g c = c.in_ok-waiting.ensures.licences ∙ same_for_each (licences_at c.args.desk.now.table 1) c.args.pens.items
