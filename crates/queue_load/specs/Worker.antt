-- What a worker has done, and what it was answered, in a load of wide items or of narrow ones.
use Rattle.std.specs.Prelude.{◌≡◌, ℕ, ◌+◌, ◌*◌, ◌≤◌, Bool, true, false, List, [], ◌++◌, map, sum, Option, Some, None}
use Rattle.pq_types.specs.Item.{bound_of}
use Rattle.pq_types.specs.Asked.{Request}
use Rattle.pq_types.specs.Asked.{Reply}
use Rattle.pq_types.specs.Asked.{Line}
use Rattle.desk_core.specs.Rule.{StartsWith}
use Rattle.announce_board.specs.Tokens.{is_idle}
use Rattle.flat_queue.specs.Calling.{IsCalled}
use Rattle.flat_queue.specs.Members.{QueueName, Joined}
use Rattle.flat_queue.specs.declared.error.CallError.{CallError}
use Rattle.flat_queue.specs.declared.error.CallError.TheVariants as error
use Rattle.queue_load.specs.Points.{IsWithin}
use Rattle.program_words.specs.Plan.{part_factor, priorities, requests_of, all_requests}
use Rattle.queue_load.specs.Tally.{counted, tally_of}
use Rattle.queue_load.specs.declared.load_faults.WorkerError.{WorkerError}
use Rattle.queue_load.specs.declared.load_faults.WorkerError.TheVariants.{NoMemory, BookFull, GaveUp, Refused}
use Rattle.program_words.specs.declared.plan.Plan.{Plan}
use Rattle.queue_load.specs.declared.points.Point.{Point}
use Rattle.queue_load.specs.declared.tally.Tally.{Tally}
use Rattle.queue_load.specs.declared.worker.EndedWorker.{EndedWorker}
use Rattle.queue_load.specs.declared.worker.WorkerState.{WorkerState}
use Rattle.queue_load.specs.declared.worker.WorkerState.TheVariants.{Coming, Here}

-- the member's request was answered, and counted
pub record IsAnswered (wide : Bool) (before : Joined) (tally : Tally) (request : Request) (after : Joined) (tally' : Tally)
    : Type 0 where
  pub number : ℕ
  pub reply : Reply
  pub called : IsCalled before request number reply after
  pub counts : tally' ≡ counted tally request reply
  pub sum_out : tally'.sum_out ≤ tally.sum_out + bound_of wide

-- the tally has so many pushes of this worker's items more than the one before, and so many pops
pub record HasCounted (wide : Bool) (before : Tally) (worker pushes pops : ℕ) (t : Tally) : Type 0 where
  pub pushed : t.pushed ≡ before.pushed + pushes
  pub popped : t.got + t.empty ≡ before.got + before.empty + pops
  pub sum_in : t.sum_in ≡ before.sum_in + sum (priorities wide worker pushes)
  pub few_in : t.sum_in ≤ before.sum_in + part_factor wide * (1000003 * pushes)
  pub few_out : t.sum_out ≤ before.sum_out + bound_of wide * pops

-- The member, of this tally, has made so many pushes of this worker's items more than it had before, and then so many
-- pops, each of which was entered in the journal: these calls stand behind those before. It leads no round.
pub record HasMadeMore (wide : Bool) (before : Joined) (tally : Tally) (worker pushes pops : ℕ) (m : Joined) (t : Tally)
    : Type 0 where
  pub queue_is : m.queue ≡ before.queue
  pub id : m.comer.id ≡ before.comer.id
  pub idle : is_idle m.pen.standing ≡ true
  pub leads_not : m.pen.leading ≡ false
  pub posts : m.pen.posts ≡ before.pen.posts + (pushes + pops)
  pub requests : map (λ c. c.operation) m.pen.mine ≡ map (λ c. c.operation) before.pen.mine ++ requests_of wide worker pushes pops
  pub tally_is : t ≡ tally_of m.pen.mine
  pub counted : HasCounted wide tally worker pushes pops t

-- the tally is that of so many rounds of this worker
pub record IsShare (wide : Bool) (worker : ℕ) (plan : Plan) (rounds : ℕ) (t : Tally) : Type 0 where
  pub pushed : t.pushed ≡ rounds * plan.pushes
  pub popped : t.got + t.empty ≡ rounds * plan.pops
  pub sum_in : t.sum_in ≡ rounds * sum (priorities wide worker plan.pushes)
  pub few_in : t.sum_in ≤ part_factor wide * (1000003 * (rounds * plan.pushes))
  pub few_out : t.sum_out ≤ bound_of wide * (rounds * plan.pops)

-- The worker of this number has made so many rounds of its pushes and pops, each of which was entered in
-- the journal: these are its calls, and its tally is theirs. It leads no round of the queue.
pub record HasMade (wide : Bool) (queue : QueueName) (worker : ℕ) (plan : Plan) (rounds : ℕ) (m : Joined) (t : Tally)
    : Type 0 where
  pub queue_is : m.queue ≡ queue
  pub id : m.comer.id ≡ worker
  pub idle : is_idle m.pen.standing ≡ true
  pub leads_not : m.pen.leading ≡ false
  pub posts : m.pen.posts ≡ rounds * (plan.pushes + plan.pops)
  pub requests : map (λ c. c.operation) m.pen.mine ≡ all_requests wide worker plan.pushes plan.pops rounds
  pub tally : t ≡ tally_of m.pen.mine
  pub share : IsShare wide worker plan rounds t

-- the reason for which a worker ends whose call was so refused: none has so many requests that no serial is left
abbrev pub reason_of : CallError → Option WorkerError
reason_of error.NoMemory = Some NoMemory
reason_of error.BookFull = Some BookFull
reason_of (error.Refused why) = Some (Refused why)
reason_of error.GaveUp = Some GaveUp
reason_of error.Spent = None

-- What the reason says for which a worker ended early: where memory was refused, not every store has
-- room for all; and where its gate gave up, the gate may do so.
abbrev pub IsReason : (may_give_up has_room : Type 0) → WorkerError → Type 0
IsReason may_give_up has_room NoMemory = ¬ has_room
IsReason may_give_up has_room BookFull = Unit {0}
IsReason may_give_up has_room GaveUp = may_give_up
IsReason may_give_up has_room (Refused why) = Unit {0}

-- The worker of this number has come so far: it has made so many whole rounds, and a part of the next, each request of which was
-- entered in the journal.
pub record HasCome (wide : Bool) (queue : QueueName) (worker : ℕ) (plan : Plan) (at : Point) (m : Joined) (t : Tally)
    : Type 0 where
  pub before : Joined
  pub tally : Tally
  pub whole : HasMade wide queue worker plan at.rounds before tally
  pub more : HasMadeMore wide before tally worker at.pushed at.popped m t
  pub within : IsWithin plan at

-- The member has come so far by so many requests more, and the journal of its last release begins with the one before.
pub record HasComeOn (wide : Bool) (before : Joined) (plan : Plan) (count : ℕ) (m : Joined) (at : Point) (t : Tally)
    : Type 0 where
  pub come : HasCome wide before.queue before.comer.id plan at m t
  pub posts : m.pen.posts ≡ before.pen.posts + count
  pub known : StartsWith m.pen.known before.pen.known

-- what a worker that is to go on knows of the journal
abbrev pub known_of : {S P : Type 0} → WorkerState S P → List Line
known_of (Coming n) = []
known_of (Here w) = w.member.pen.known

-- a worker that is to go on until it has made so many requests is a newcomer of its queue, or has come so far and made no more
abbrev pub StandsAt : {S P : Type 0} → Bool → QueueName → ℕ → Plan → ℕ → WorkerState S P → Type 0
StandsAt wide queue worker plan until (Coming n) = (n.queue ≡ queue) × (n.comer.id ≡ worker)
StandsAt wide queue worker plan until (Here w) =
    HasCome wide queue worker plan w.point w.member w.tally × (w.member.pen.posts ≤ until)

-- Where it was not refused, the worker has made so many requests in all, and the journal of its last release begins with this
-- one; else there is such a reason.
pub record HasWorked {S P : Type 0} (wide : Bool) (may_give_up has_room : Type 0) (queue : QueueName) (worker : ℕ) (plan : Plan)
    (until : ℕ) (known : List Line) (w : EndedWorker S P) : Type 0 where
  pub done : w.refusal ≡ None → HasCome wide queue worker plan w.point w.member w.tally
  pub posts : w.refusal ≡ None → w.member.pen.posts ≡ until
  pub starts : w.refusal ≡ None → StartsWith w.member.pen.known known
  pub refused : (reason : WorkerError) → w.refusal ≡ Some reason → IsReason may_give_up has_room reason
