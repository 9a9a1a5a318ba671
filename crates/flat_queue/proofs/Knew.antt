-- The line of a call is behind all that its member knew when it posted.
use Rattle.std.proofs.Common.{ℕ, ◌+◌, ◌<◌, List, [], ◌∷◌, length, refl, arith}
use Rattle.pq_types.specs.Asked.{Request}
use Rattle.pq_types.specs.declared.request.Request.TheVariants.{Push, Pop, Least}
use Rattle.pq_types.specs.Asked.{Reply}
use Rattle.pq_types.specs.Asked.{Answer}
use Rattle.pq_types.specs.declared.answer.Answer.TheVariants.{Entered}
use Rattle.pq_types.specs.Asked.{Line}
use Rattle.desk_core.specs.Clauses.{HasNo}
use Rattle.desk_core.specs.Knows.{NoneAbove}
use Rattle.announce_board.specs.Asking.{asked_by}
use Rattle.flat_queue.specs.Members.{Joined}
use Rattle.flat_queue.specs.Calling.{IsTold, KeepsTimes}
use Rattle.flat_queue.proofs.Waits.{starts_refl}

none_next : (place posts : ℕ) (lines : List Line) → NoneAbove place posts lines → HasNo lines place (posts + 1)
none_next place posts [] h = tt
none_next place posts (l ∷ ls) h = ((λ e f. let lt = h.0 e in omega (arith, lt, f)), none_next place posts ls h.1)

pub told_beyond : (words : ℕ) (a c : Joined) (request : Request) (now number : ℕ) (reply : Reply) → NoneAbove a.pen.place a.pen.posts a.pen.known
    → IsTold (record a { pen = asked_by words a.pen request now }) (Entered number reply) c → length a.pen.known < number
told_beyond words a c (Push x) now number reply none h = h.beyond number reply refl a.pen.known (starts_refl a.pen.known) (none_next a.pen.place a.pen.posts a.pen.known none)
told_beyond words a c Pop now number reply none h = h.beyond number reply refl a.pen.known (starts_refl a.pen.known) (none_next a.pen.place a.pen.posts a.pen.known none)
told_beyond words a c Least now number reply none h = h.beyond number reply refl a.pen.known (starts_refl a.pen.known) (none_next a.pen.place a.pen.posts a.pen.known none)

-- and its member keeps when it began and ended
pub told_times : (words : ℕ) (a c : Joined) (request : Request) (now : ℕ) (x : Answer) → IsTold (record a { pen = asked_by words a.pen request now }) x c → KeepsTimes a.pen c.pen
told_times words a c (Push y) now x h = record { began = now; ended = h.ended; begins = h.begins; ends = h.ends }
told_times words a c Pop now x h = record { began = now; ended = h.ended; begins = h.begins; ends = h.ends }
told_times words a c Least now x h = record { began = now; ended = h.ended; begins = h.begins; ends = h.ends }
