use Rattle.desk_core.specs.Words.{word_number}
use Rattle.flat_queue.specs.Calling.{WaitsOn}
use Rattle.flat_queue.specs.Turns.{WaitedBy}
use Rattle.flat_queue.proofs.queue.Queue.wait.Given as goal

abbrev pub invariant-loop : goal.invariant-loop
invariant-loop g l = WaitsOn l.fn.member l.member × WaitedBy (word_number g.P.Part.wide) (g.G.Gate.may_answer l.fn.gate l.fn.member.comer.id) l.fn.member l.member
