use Rattle.std.proofs.Common.{◌-◌}
use Rattle.queue_load.specs.Worker.{HasComeOn}
use Rattle.queue_load.proofs.worker.make_until.Given as goal

abbrev pub invariant-loop-made : goal.invariant-loop-made
invariant-loop-made g l = HasComeOn g.P.Part.wide l.fn.handle l.load.plan (l.made - l.fn.handle.pen.posts) l.at l.here l.tally
