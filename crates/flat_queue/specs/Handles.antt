-- What a call that may give up comes back with: an idle handle, or one whose call is still pending.
use Rattle.std.specs.Prelude.{ℕ, Option, Some, None, Result, Ok, Err}
use Rattle.pq_types.specs.Asked.{Reply}
use Rattle.pq_types.specs.Asked.{Request}
use Rattle.pq_types.specs.Asked.{Answer}
use Rattle.pq_types.specs.declared.answer.Answer.TheVariants as answer
use Rattle.flat_queue.specs.Members.{Joined}
use Rattle.flat_queue.specs.Calling.{IsCalled, IsRefused}
use Rattle.flat_queue.specs.declared.error.CallError.{CallError}
use Rattle.flat_queue.specs.declared.error.CallError.TheVariants.{NoMemory, BookFull, Spent, GaveUp}
use Rattle.flat_queue.specs.declared.error.CallError.TheVariants as error
use Rattle.flat_queue.specs.declared.pending.Called.{Called}
use Rattle.flat_queue.specs.declared.pending.Called.TheVariants.{Answered, Refused, Pending}

module _ {S P : Type 0} where
  -- the member that a call comes back with, idle or waiting
  abbrev pub member_of : Called S P → Joined
  member_of (Answered handle number reply) = handle
  member_of (Refused handle error) = handle
  member_of (Pending pending) = pending

  -- the refusal with which a call comes back, if it does
  abbrev pub refusal_of : Called S P → Option CallError
  refusal_of (Answered handle number reply) = None
  refusal_of (Refused handle error) = Some error
  refusal_of (Pending pending) = None

  -- what a call tells that comes back so: the line and the reply, or why there are none
  abbrev pub told : Called S P → Result (ℕ × Reply) CallError
  told (Answered handle number reply) = Ok (number, reply)
  told (Refused handle error) = Err error
  told (Pending pending) = Err GaveUp

  -- How the call of this request ended: entered on the line of this number; or refused, without a
  -- line, but never since its gate gave up; or given up as the gate may say, and still posted.
  abbrev pub EndsCall : (may_give_up : Type 0) → Joined → Request → Called S P → Type 0
  EndsCall may_give_up before request (Answered handle number reply) = IsCalled before request number reply handle
  EndsCall may_give_up before request (Refused handle error) = IsRefused ⊥ before request error handle
  EndsCall may_give_up before request (Pending pending) = IsRefused may_give_up before request GaveUp pending

  -- What holds of the answer with which a pending call comes back, or of none, and of the member then.
  -- It comes back with no other refusal.
  abbrev pub Brings : (Option Answer → Joined → Type 0) → Called S P → Type 0
  Brings Holds (Answered handle number reply) = Holds (Some (answer.Entered number reply)) handle
  Brings Holds (Refused handle BookFull) = Holds (Some answer.BookFull) handle
  Brings Holds (Refused handle NoMemory) = Holds (Some answer.NoMemory) handle
  Brings Holds (Refused handle (error.Refused why)) = Holds (Some (answer.Refused why)) handle
  Brings Holds (Refused handle Spent) = ⊥
  Brings Holds (Refused handle GaveUp) = ⊥
  Brings Holds (Pending pending) = Holds None pending

  -- what a pending call comes back as with this answer, or with none
  abbrev pub came_to : Option Answer → Joined → Called S P
  came_to None member = Pending member
  came_to (Some (answer.Entered number reply)) member = Answered member number reply
  came_to (Some answer.BookFull) member = Refused member BookFull
  came_to (Some answer.NoMemory) member = Refused member NoMemory
  came_to (Some (answer.Refused why)) member = Refused member (error.Refused why)
