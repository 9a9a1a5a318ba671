use Rattle.split_core.specs.Grid.{run, opening}
use Rattle.split_core.proofs.Collects.{law_one_stops, law_not_all_right, law_not_all_down, law_quadrants, law_diagonals}
use Rattle.split_core.proofs.Collects.{law_ways_closed, law_doors_read, scans_whole, door_run}
use Rattle.split_core.proofs.Ended.{law_ended}
use Rattle.split_core.proofs.Splitters.{lone_stops}
use Rattle.split_core.proofs.Quadrants.{in_is_visit}
use Rattle.split_core.proofs.DoorsMet.{law_doors_met}
use Rattle.split_core.proofs.WalkSteps.{law_way_steps}
use Rattle.split_core.proofs.Stopped.{stays_stopped}
use Rattle.split_core.proofs.InGrid.{law_inside}
use Rattle.split_core.proofs.laws.law_all_runs.Goals as goal

pub returns-clause-one_stops : goal.returns-clause-one_stops
returns-clause-one_stops c ids events d = law_one_stops ids d events

pub returns-clause-not_all_right : goal.returns-clause-not_all_right
returns-clause-not_all_right c ids events d = law_not_all_right ids d events

pub returns-clause-not_all_down : goal.returns-clause-not_all_down
returns-clause-not_all_down c ids events d = law_not_all_down ids d events

pub returns-clause-quadrants : goal.returns-clause-quadrants
returns-clause-quadrants c ids events d = law_quadrants ids d events

pub returns-clause-diagonals : goal.returns-clause-diagonals
returns-clause-diagonals c ids events d = law_diagonals ids d events

pub returns-clause-stays_closed : goal.returns-clause-stays_closed
returns-clause-stays_closed c ids events more p h = door_run more (run events (opening ids)) p h

pub returns-clause-stays_stopped : goal.returns-clause-stays_stopped
returns-clause-stays_stopped c s more = stays_stopped more s

pub returns-clause-ways_closed : goal.returns-clause-ways_closed
returns-clause-ways_closed c ids events d = law_ways_closed ids d events

pub returns-clause-scans : goal.returns-clause-scans
returns-clause-scans c ids d = scans_whole ids d

pub returns-clause-ended : goal.returns-clause-ended
returns-clause-ended c ids events d = law_ended ids d events

pub returns-clause-doors : goal.returns-clause-doors
returns-clause-doors c ids events d = law_doors_read ids d events

pub returns-clause-lone_stops : goal.returns-clause-lone_stops
returns-clause-lone_stops c ids events d = lone_stops (run events (opening ids)) (law_not_all_right ids d events) (law_not_all_down ids d events)

pub returns-clause-in_quadrant : goal.returns-clause-in_quadrant
returns-clause-in_quadrant c r k x = in_is_visit r k x

pub returns-clause-doors_met : goal.returns-clause-doors_met
returns-clause-doors_met c ids events = law_doors_met ids events

pub returns-clause-way_steps : goal.returns-clause-way_steps
returns-clause-way_steps c ids events = law_way_steps ids events

pub returns-clause-inside : goal.returns-clause-inside
returns-clause-inside c ids events d = law_inside ids d events
