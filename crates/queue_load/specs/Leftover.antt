-- What a line of a journal makes of what is left in the queue.
use Rattle.std.specs.Prelude.{ℕ, ◌+◌, ◌-◌, ◌<◌, ◌≤◌}
use Rattle.pq_types.specs.Asked.{Request, Operation}
use Rattle.pq_types.specs.declared.request.Request.TheVariants.{Push, Pop, Least}
use Rattle.pq_types.specs.Asked.{Reply}
use Rattle.pq_types.specs.declared.answer.Reply.TheVariants.{Pushed, Got, Empty, Least as LeastIs}
use Rattle.pq_types.specs.Operation.{Asked, ByTicket, Shuts, Remove, Move}
use Rattle.queue_load.specs.declared.leftover.Leftover.{Leftover}

-- a push leaves its item more, and a pop the item that it took out less
abbrev pub left_after : Leftover → Request → Reply → Leftover
left_after l (Push x) reply = record { count = l.count + 1; sum = l.sum + x.priority }
left_after l Pop (Got x) = record { count = l.count - 1; sum = l.sum - x.priority }
left_after l Pop Empty = l
left_after l Pop Pushed = l
left_after l Pop (LeastIs x) = l
left_after l Least reply = l

-- a move leaves the item that it found under its new priority
abbrev pub moved : Leftover → ℕ → Reply → Leftover
moved l priority (Got x) = record { count = l.count; sum = l.sum - x.priority + priority }
moved l priority Empty = l
moved l priority Pushed = l
moved l priority (LeastIs x) = l

-- the same of any operation; a removal counts as a pop, and a shut leaves all
abbrev pub left_by : Leftover → Operation → Reply → Leftover
left_by l (Asked q) reply = left_after l q reply
left_by l (ByTicket (Remove i)) reply = left_after l Pop reply
left_by l (ByTicket (Move i priority)) reply = moved l priority reply
left_by l Shuts reply = l

-- the item that a pop took out was there
abbrev pub HoldsFor : Leftover → Request → Reply → Type 0
HoldsFor l (Push x) reply = Unit {0}
HoldsFor l Pop (Got x) = (0 < l.count) × (x.priority ≤ l.sum)
HoldsFor l Pop Empty = Unit {0}
HoldsFor l Pop Pushed = Unit {0}
HoldsFor l Pop (LeastIs x) = Unit {0}
HoldsFor l Least reply = Unit {0}
