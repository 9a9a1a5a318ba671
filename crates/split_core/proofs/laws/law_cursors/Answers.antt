use Rattle.split_core.proofs.MachineScans.{law_cursors}
use Rattle.split_core.proofs.laws.law_cursors.Goals as goal

pub returns : goal.returns
returns c ids events = law_cursors ids events
