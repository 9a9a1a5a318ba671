use Rattle.std.specs.Prelude.{◌≡◌, true}
use Rattle.desk_core.specs.Words.{word_number}
use Rattle.announce_board.specs.Tokens.{is_idle}
use Rattle.flat_queue.proofs.TakeStepping.{LooksSoFarBy}
use Rattle.flat_queue.proofs.queue.Queue.look_on.Given as goal

abbrev pub invariant-loop : goal.invariant-loop
invariant-loop g l = (l.member.queue ≡ l.fn.member.queue) × (is_idle l.member.pen.standing ≡ true)
    × LooksSoFarBy (word_number g.P.Part.wide) l.fn.wakes l.fn.line l.fn.member l.stage l.member
