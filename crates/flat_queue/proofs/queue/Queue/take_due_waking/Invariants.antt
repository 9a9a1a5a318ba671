use Rattle.std.specs.Prelude.{◌≡◌, true}
use Rattle.desk_core.specs.Words.{word_number}
use Rattle.announce_board.specs.Tokens.{is_idle}
use Rattle.flat_queue.proofs.DueStepping.{DueSoFarBy}
use Rattle.flat_queue.proofs.queue.Queue.take_due_waking.Given as goal

abbrev pub invariant-loop : goal.invariant-loop
invariant-loop g l = (l.member.queue ≡ l.fn.member.queue) × (is_idle l.member.pen.standing ≡ true)
    × DueSoFarBy (word_number g.P.Part.wide) l.fn.call.wakes l.fn.member l.clock l.member × g.R.TimeSource.may_tell l.fn.rt l.clock
