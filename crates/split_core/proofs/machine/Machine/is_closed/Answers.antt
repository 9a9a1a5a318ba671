use Rattle.std.proofs.Common.{arith}
use Rattle.split_core.proofs.TrailMachines.{door_within}
use Rattle.split_core.proofs.machine.Machine.is_closed.Goals as goal

pub returns-else-place-len : goal.returns-else-place-len
returns-else-place-len g c ids events end within =
    let now = c.args.self.now in
    absurd (omega (arith, c.if-place-len.false, c.len.ensures, door_within ids events now.last.items now.doors.items now.walkers.items end c.args.place within))
