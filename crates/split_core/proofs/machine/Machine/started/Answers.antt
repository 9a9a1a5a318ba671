use Rattle.std.proofs.Common.{◌≡◌, ◌∙◌, rules}
use Rattle.split_core.specs.Grid.{run, opening}
use Rattle.split_core.specs.Stored.{started_of}
use Rattle.split_core.proofs.MachineScans.{started_is}
use Rattle.split_core.proofs.machine.Machine.started.Goals as goal

pub returns-clause-run : goal.returns-clause-run
returns-clause-run g c ids events end =
    let counted : c.count.result ≡ started_of c.args.self.now.walkers.items = search rules in
    counted ∙ started_is c.args.self.now.walkers.items (run events (opening ids)) end.agrees.comers
