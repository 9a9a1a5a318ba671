use Rattle.std.specs.Prelude.{◌≡◌}
use Rattle.desk_core.specs.Words.{word_number}
use Rattle.flat_queue.specs.CallSteps.{FitsStage, HasComeToBy}
use Rattle.flat_queue.proofs.queue.Queue.try_or_wait.Given as goal

abbrev pub invariant-loop : goal.invariant-loop
invariant-loop g l = (l.member.queue ≡ l.fn.member.queue) × FitsStage l.stage l.member
    × HasComeToBy (word_number g.P.Part.wide) l.fn.member l.fn.request l.stage l.member
