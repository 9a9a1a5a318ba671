use Rattle.std.proofs.Common.{refl}
use Rattle.split_core.specs.Calls.{step_call}
use Rattle.split_core.proofs.TrailMachines.{still_tracked, unchanged, takes_on, takes_refused}
use Rattle.split_core.proofs.trail_machine.TrailMachine.step.Goals as goal

pub invariant_of-self : goal.invariant_of-self
invariant_of-self g c =
    record { tracked = still_tracked step_call c.args.id c.step.result c.args.self.now.grid c.step.new.self c.args.self.now.trackers.items c.step.ensures.ok c.step.ensures.unchanged c.args.self.now.tracked }

pub returns-in-Ok-clause-ok : goal.returns-in-Ok-clause-ok
returns-in-Ok-clause-ok g c = takes_on step_call c.args.id c.in-Ok.seen c.args.self.now _ c.in-Ok.ensures.ok refl

pub returns-in-Err-clause-refused : goal.returns-in-Err-clause-refused
returns-in-Err-clause-refused g c ids acts end = takes_refused ids acts step_call c.args.id c.in-Err.error (c.in-Err.ensures.refused ids _ end.grid)

pub returns-in-Err-clause-unchanged : goal.returns-in-Err-clause-unchanged
returns-in-Err-clause-unchanged g c = unchanged c.args.self.now c.step.new.self c.in-Err.ensures.unchanged _
