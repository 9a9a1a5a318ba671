use Rattle.std.proofs.Common.{◌≡◌, ◌-◌}
use Rattle.split_grid.specs.Opening.{places_of}
use Rattle.part_tests.proofs.tables.comers.closed_places.Given as goal

abbrev pub invariant-loop-place : goal.invariant-loop-place
invariant-loop-place l = record {
  table : l.stopped.table ≡ l.grid.table;
  comers : l.stopped.comers ≡ l.fn.stopped.comers;
}

-- the doors that the scan has still to read
abbrev pub decreases-loop-place : goal.decreases-loop-place
decreases-loop-place l = places_of l.stopped.comers - l.stopped.scan.doors
