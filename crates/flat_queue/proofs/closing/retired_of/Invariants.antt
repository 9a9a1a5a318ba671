use Rattle.std.proofs.Common.{◌≡◌, map}
use Rattle.std.specs.List.{All}
use Rattle.flat_queue.specs.Closing.{retired_pen}
use Rattle.flat_queue.specs.Gathered.{Gathers}
use Rattle.flat_queue.specs.Members.{Joined}
use Rattle.flat_queue.proofs.closing.retired_of.Given as goal

abbrev pub invariant-loop-member : goal.invariant-loop-member
invariant-loop-member g l =
    Gathers l.desk.table (map retired_pen l.yielded) 0 l.all × All (λ (m : Joined). m.pen.room ≡ m.queue.room) l.yielded
