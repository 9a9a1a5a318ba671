-- Calls of any two members of one queue stand in the journal in the order in which they were made in time.
use Rattle.std.specs.Prelude.{◌≡◌, ℕ, ◌<◌, List, ◌++◌, slice_get, Some}
use Rattle.pq_types.specs.Asked.{Request}
use Rattle.pq_types.specs.Asked.{Reply}
use Rattle.desk_core.specs.Witnessed.{AreLinearized}
use Rattle.desk_core.specs.declared.model.Call.{Call}
use Rattle.desk_core.specs.declared.model.PenState.{PenState}
use Rattle.flat_queue.specs.Members.{Joined}
use Rattle.flat_queue.specs.Calling.{IsCalled}

-- the member has gone on: it has its calls, and the positions at which they began and ended, and maybe more
pub record HasGoneOn (before after : Joined) : Type 0 where
  pub calls : List Call
  pub mine : after.pen.mine ≡ before.pen.mine ++ calls
  pub more : List (ℕ × ℕ)
  pub begins : after.pen.begins ≡ before.pen.begins ++ more
  pub over : List (ℕ × ℕ)
  pub ends : after.pen.ends ≡ before.pen.ends ++ over

-- Two calls, of two members or of one, each as its contract tells it: from a member `before` to what it is `after`. Since then
-- their members have gone on to what they are `now`, and have given testimony, which was put together. Where the first call
-- ended before the second began, in the one history of the queue, it has the earlier line.
abbrev pub MembersFollowTime : Type 0
MembersFollowTime =
    (room : ℕ) (pens : List PenState) (i j : ℕ) (before after now before' after' now' : Joined)
    (request request' : Request) (number number' : ℕ) (reply reply' : Reply)
    → AreLinearized room pens → slice_get pens i ≡ Some now.pen → slice_get pens j ≡ Some now'.pen
    → (one : IsCalled before request number reply after) → HasGoneOn after now
    → (other : IsCalled before' request' number' reply' after') → HasGoneOn after' now'
    → one.times.ended < other.times.began
    → number < number'
