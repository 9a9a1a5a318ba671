use Rattle.std.proofs.Common.{refl}
use Rattle.split_core.specs.Places.{place}
use Rattle.split_core.proofs.laws.law_worked_runs.Goals as goal

pub returns-clause-one_goes_down_one_stops : goal.returns-clause-one_goes_down_one_stops
unfolding place
returns-clause-one_goes_down_one_stops c = refl

pub returns-clause-nobody_stops_at_the_first_place : goal.returns-clause-nobody_stops_at_the_first_place
unfolding place
returns-clause-nobody_stops_at_the_first_place c = refl

pub returns-clause-the_scan_goes_past_it : goal.returns-clause-the_scan_goes_past_it
unfolding place
returns-clause-the_scan_goes_past_it c = refl

pub returns-clause-the_last_writer_stops : goal.returns-clause-the_last_writer_stops
unfolding place
returns-clause-the_last_writer_stops c = refl

pub returns-clause-and_all_stand_apart : goal.returns-clause-and_all_stand_apart
unfolding place
returns-clause-and_all_stand_apart c = refl
