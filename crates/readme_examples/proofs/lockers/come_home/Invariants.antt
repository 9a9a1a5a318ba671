use Rattle.std.proofs.Common.{◌≡◌, ◌-◌}
use Rattle.split_grid.specs.Opening.{places_of}
use Rattle.split_grid.specs.Calls.{IsStill}
use Rattle.readme_examples.proofs.lockers.come_home.Given as goal

-- the scan has found what was put into the list
abbrev pub invariant-loop-place : goal.invariant-loop-place
invariant-loop-place l = record {
  still : IsStill l.initial.stopped l.stopped;
  found : l.stopped.scan.found ≡ l.taken.items;
}

-- the doors that the scan has still to read
abbrev pub decreases-loop-place : goal.decreases-loop-place
decreases-loop-place l = places_of l.stopped.comers - l.stopped.scan.doors
