use Rattle.std.specs.Prelude.{◌≡◌, true}
use Rattle.announce_board.specs.Tokens.{is_idle}
use Rattle.flat_queue.specs.Taking.{MayEnd}
use Rattle.flat_queue.specs.declared.take_steps.Left.TheVariants.{Nothing}
use Rattle.flat_queue.proofs.TakeStepping.{HasMissedYet}
use Rattle.flat_queue.proofs.queue.Queue.take_waking_until.Given as goal

abbrev pub invariant-loop : goal.invariant-loop
invariant-loop g l = (l.member.queue ≡ l.fn.member.queue) × (is_idle l.member.pen.standing ≡ true) × HasMissedYet l.fn.member l.member
    × (l.clock.0 ≡ Nothing → MayEnd (g.R.TimeSource.may_tell l.fn.rt) l.fn.deadline l.clock.1)
