use Rattle.split_core.proofs.TrailMachines.{count_of, opening_trackers, opening_trails}
use Rattle.split_core.proofs.trail_machine.TrailMachine.open.Goals as goal

pub invariant_of-result : goal.invariant_of-result
invariant_of-result g c =
    let grid = c.in_ok-grid.grid in
    record {
      tracked = opening_trackers c.args.ids.now c.in_ok-trackers.trackers.items _ c.in_ok-trackers.ensures (count_of c.args.ids.now _ grid.last.items grid.doors.items grid.walkers.items c.in_ok-grid.ensures) c.requires.size.some c.requires.size.few;
    }

pub returns : goal.returns
returns g c = record { grid = c.in_ok-grid.ensures; trails = opening_trails c.args.ids.now c.in_ok-trackers.trackers.items c.in_ok-trackers.ensures }
