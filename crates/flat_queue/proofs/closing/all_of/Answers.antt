use Rattle.std.proofs.Common.{length, map}
use Rattle.flat_queue.specs.Closing.{retired_pen}
use Rattle.flat_queue.proofs.Closes.{gathers_all}
use Rattle.flat_queue.proofs.closing.all_of.Goals as goal

pub returns-clause-gathers : goal.returns-clause-gathers
returns-clause-gathers g c more kept =
    gathers_all c.args.desk.now.table (map retired_pen c.args.members.items) (length c.args.newcomers.items) more c.retired_of.result c.unused_of.result c.args.spare c.both-licences.result c.both.result
    c.retired_of.ensures.gathers c.unused_of.ensures kept c.both-licences.ensures.gathers c.both.ensures.gathers
