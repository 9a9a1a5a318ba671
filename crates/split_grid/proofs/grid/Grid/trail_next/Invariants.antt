use Rattle.std.proofs.Common.{◌≡◌, ◌-◌, ◌≤◌, List}
use Rattle.split_core.specs.Trail.{Trail}
use Rattle.split_grid.specs.Opening.{places_of}
use Rattle.split_grid.specs.Trails.{IsTrail}
use Rattle.split_grid.proofs.TrailCalls.{FoundNone}
use Rattle.split_grid.specs.declared.rule.Look.{Look}
use Rattle.split_grid.proofs.grid.Grid.trail_next.Given as goal

abbrev pub invariant-loop-stopped : goal.invariant-loop-stopped
invariant-loop-stopped g l = record {
  still : l.stopped ≡ record l.fn.stopped { looks = l.stopped.looks };
  comers : l.trail.comers ≡ l.fn.trail.comers;
  before : (earlier : List Look) (z : Trail) → IsTrail earlier l.fn.stopped l.fn.trail z → FoundNone earlier l.fn.stopped l.stopped l.trail z;
  onward : l.fn.trail.tracker.doors ≤ l.trail.tracker.doors;
}

abbrev pub decreases-loop-stopped : goal.decreases-loop-stopped
decreases-loop-stopped g l = places_of l.stopped.comers - l.trail.tracker.doors
