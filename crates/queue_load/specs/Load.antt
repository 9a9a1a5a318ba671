-- What a load comes to, whose items are wide or narrow: its report, and the Book of the queue that its workers have left.
use Rattle.std.specs.Prelude.{◌≡◌, ◌≢◌, ℕ, ◌+◌, ◌*◌, ◌<◌, ◌≤◌, Bool, IsTrue, List, [], ◌∷◌, length}
use Rattle.std.specs.Prelude.{map, slice_get, Option, Some, Result, Ok, Err}
use Rattle.pq_types.specs.Asked.{Line}
use Rattle.pq_book.specs.Book.{Volume}
use Rattle.desk_core.specs.Calls.{calls_of}
use Rattle.announce_board.specs.Notes.{HasItsCalls}
use Rattle.flat_queue.specs.Closing.{OfEachMember, LinesAreTheirs, LinearizesMembers}
use Rattle.flat_queue.specs.Members.{QueueName, Joined}
use Rattle.queue_load.specs.Audit.{Reports}
use Rattle.queue_load.specs.Lines.{load_room, book_kept, MayPostAll}
use Rattle.program_words.specs.Plan.{all_requests, sum_of_priorities}
use Rattle.queue_load.specs.Tally.{tally_of, all_together}
use Rattle.queue_load.specs.Worker.{HasMade, HasCome, HasWorked, IsReason, IsShare, StandsAt, known_of}
use Rattle.queue_load.specs.declared.load_faults.LoadError.{LoadError}
use Rattle.queue_load.specs.declared.load_faults.LoadError.TheVariants.{NoMemory, NoThread, Worker}
use Rattle.queue_load.specs.declared.load_faults.WorkerError.{WorkerError}
use Rattle.queue_load.specs.declared.load_faults.WorkerError.TheVariants.{GaveUp}
use Rattle.program_words.specs.declared.plan.Plan.{Plan}
use Rattle.queue_load.specs.declared.report.Report.{Report}
use Rattle.queue_load.specs.declared.tally.Tally.{Tally}
use Rattle.queue_load.specs.declared.worker.EndedWorker.{EndedWorker}
use Rattle.queue_load.specs.declared.worker.WorkerState.{WorkerState}

-- workers 1 and so on that are to go on until each has made so many requests
abbrev pub AreStates : {S P : Type 0} → Bool → QueueName → Plan → ℕ → List (WorkerState S P) → Type 0
AreStates {S} {P} wide queue plan until states =
    (i : ℕ) (s : WorkerState S P) → slice_get states i ≡ Some s → StandsAt wide queue (i + 1) plan until s

-- what the first worker knows of the journal, before it goes on and then
abbrev pub known_before : {S P : Type 0} → List (WorkerState S P) → List Line
known_before [] = []
known_before (s ∷ ss) = known_of s

abbrev pub known_then : {S P : Type 0} → List (EndedWorker S P) → List Line
known_then [] = []
known_then (w ∷ ws) = w.member.pen.known

-- workers 1 and so on, each of which has done so much
abbrev pub AreDone : {S P : Type 0} → Bool → QueueName → Plan → List (EndedWorker S P) → Type 0
AreDone {S} {P} wide queue plan worked = (i : ℕ) (w : EndedWorker S P) → slice_get worked i ≡ Some w
    → HasMade wide queue (i + 1) plan plan.rounds w.member w.tally

-- A queue with the room of this load, and a newcomer of it for each worker, who may post all its requests and is at the state
-- before its joining; of the journal it knows nothing. The queue has no other comers.
pub record BeginsLoad {S P : Type 0} (wide : Bool) (plan : Plan) (queue : QueueName) (states : List (WorkerState S P))
    : Type 0 where
  pub room_is : queue.room ≡ load_room plan
  pub stand : (until : ℕ) → AreStates wide queue plan until states
  pub count : length states ≡ plan.workers
  pub few : MayPostAll queue plan
  pub known : known_before states ≡ []
  pub comers : queue.comers ≡ plan.workers

-- workers 1 and so on, each of which has made so many requests where it was not refused, and else has a reason
abbrev pub AreWorked : {S P : Type 0} → Bool → (may_give_up : ℕ → Type 0) → (has_room : Type 0) → QueueName → Plan → ℕ
    → List (WorkerState S P) → List (EndedWorker S P) → Type 0
AreWorked {S} {P} wide may_give_up has_room queue plan until states worked =
    (i : ℕ) (w : EndedWorker S P) → slice_get worked i ≡ Some w
    → (s : WorkerState S P) × (slice_get states i ≡ Some s)
    × HasWorked wide (may_give_up (i + 1)) has_room queue (i + 1) plan until (known_of s) w

-- workers 1 and so on, each of which has made so many requests
abbrev pub HaveCome : {S P : Type 0} → Bool → QueueName → Plan → ℕ → List (EndedWorker S P) → Type 0
HaveCome {S} {P} wide queue plan until worked =
    (i : ℕ) (w : EndedWorker S P) → slice_get worked i ≡ Some w
    → HasCome wide queue (i + 1) plan w.point w.member w.tally × (w.member.pen.posts ≡ until)

-- the same, no more of them
abbrev pub HaveComeWithin : {S P : Type 0} → Bool → QueueName → Plan → ℕ → List (EndedWorker S P) → Type 0
HaveComeWithin wide queue plan most worked = (until : ℕ) × HaveCome wide queue plan until worked × (until ≤ most)

-- the worker at this index was refused
abbrev pub HasRefused : {S P : Type 0} → List (EndedWorker S P) → ℕ → Type 0
HasRefused {S} {P} worked i =
    (w : EndedWorker S P) × (reason : WorkerError) × (slice_get worked i ≡ Some w) × (w.refusal ≡ Some reason)

-- it is the refusal of a worker before whom none was refused, with its id
abbrev pub IsFirstRefusal : {S P : Type 0} → List (EndedWorker S P) → LoadError → Type 0
IsFirstRefusal {S} {P} worked error =
    (i : ℕ) × (w : EndedWorker S P) × (reason : WorkerError)
    × (slice_get worked i ≡ Some w) × (w.refusal ≡ Some reason) × (error ≡ Worker (i + 1) reason)
    × ((k : ℕ) → k < i → ¬ (HasRefused worked k))

-- the tallies are those of workers 1 and so on, each of all rounds
abbrev pub AreShares : {S P : Type 0} → Bool → Plan → List (EndedWorker S P) → Type 0
AreShares {S} {P} wide plan worked = (i : ℕ) (w : EndedWorker S P) → slice_get worked i ≡ Some w
    → IsShare wide (i + 1) plan plan.rounds w.tally

-- the tally of so many workers of this load
pub record IsTotal (wide : Bool) (workers : ℕ) (plan : Plan) (t : Tally) : Type 0 where
  pub pushed : t.pushed ≡ workers * (plan.rounds * plan.pushes)
  pub popped : t.got + t.empty ≡ workers * (plan.rounds * plan.pops)
  pub sum_in : t.sum_in ≡ plan.rounds * sum_of_priorities wide workers plan.pushes

-- the members that workers 1 and so on are: each has made all its requests on this queue
abbrev pub AreMembers : Bool → QueueName → Plan → List Joined → Type 0
AreMembers wide queue plan members = (i : ℕ) (m : Joined) → slice_get members i ≡ Some m
    → HasMade wide queue (i + 1) plan plan.rounds m (tally_of m.pen.mine)

-- so many workers have made all their requests, and this is what they were answered, added up
pub record AreAnswered (wide : Bool) (workers : ℕ) (plan : Plan) (members : List Joined) (t : Tally) : Type 0 where
  pub queue : QueueName
  pub made : AreMembers wide queue plan members
  pub count : length members ≡ workers
  pub added : t ≡ all_together (map (λ m. tally_of m.pen.mine) members)

-- each call of these members stands in the journal, on the line of its number
abbrev pub StandIn : List Line → List Joined → Type 0
StandIn journal members = OfEachMember members (λ m. HasItsCalls m.pen journal)

-- The journal has at the place of each of these members exactly the calls that the member has.
abbrev pub HaveExactly : List Line → List Joined → Type 0
HaveExactly journal members = OfEachMember members (λ m. calls_of m.pen.place journal ≡ m.pen.mine)

-- The Book with this room has at the place of worker 1 exactly the calls that this worker's member has, which are its requests in
-- their order.
pub record LeavesFirst (wide : Bool) (room : ℕ) (plan : Plan) (first : Joined) (book : Volume) : Type 0 where
  pub room_is : book.room ≡ room
  pub calls : calls_of first.pen.place book.journal ≡ first.pen.mine
  pub requests : map (λ c. c.operation) first.pen.mine ≡ all_requests wide 1 plan.pushes plan.pops plan.rounds

-- A load has this report and has left this Book: all requests of its workers were answered, the
-- report tells what they were answered, added up, and each call of each of them stands in the
-- Book's journal, on the line of its number. At the place of each worker the journal has no others, and it has no line of another
-- place. And this journal linearizes one history, which has the beginnings and ends of the calls of them all, and no others. The
-- audit is ok.
pub record ReportsLoad (wide : Bool) (plan : Plan) (r : Report) (book : Volume) : Type 0 where
  pub members : List Joined
  pub total : Tally
  pub answered : AreAnswered wide plan.workers plan members total
  pub total_is : IsTotal wide plan.workers plan total
  pub report : Reports plan total book.journal r
  pub stand : StandIn book.journal members
  pub linearized : LinearizesMembers (load_room plan) members book.journal
  pub first : Joined
  pub is_first : slice_get members 0 ≡ Some first
  pub leaves : LeavesFirst wide (load_room plan) plan first book
  pub exact : HaveExactly book.journal members
  pub only : LinesAreTheirs members book.journal
  pub ok : IsTrue r.audit

-- How a load may fail: where a worker ended early, its id is one of 1 to the last, and the reason is one that this worker may
-- have.
abbrev pub FailsLoad : (may_give_up : ℕ → Type 0) → (has_room : Type 0) → Plan → LoadError → Type 0
FailsLoad may_give_up has_room plan NoMemory = Unit {0}
FailsLoad may_give_up has_room plan NoThread = Unit {0}
FailsLoad may_give_up has_room plan (Worker id reason) = (1 ≤ id) × (id ≤ plan.workers) × IsReason (may_give_up id) has_room reason

-- How a load of workers who never give up may fail: where a worker ended early, its id is one of 1 to the last, and the reason is
-- another than that its gate gave up.
abbrev pub FailsOpenLoad : Plan → LoadError → Type 0
FailsOpenLoad plan NoMemory = Unit {0}
FailsOpenLoad plan NoThread = Unit {0}
FailsOpenLoad plan (Worker id reason) = (1 ≤ id) × (id ≤ plan.workers) × (reason ≢ GaveUp)

-- A load has this report, and hands back this Book: that of which the report speaks, where its queue was a short one, else none.
abbrev pub HasReport : Bool → Plan → Report → Option Volume → Type 0
HasReport wide plan r left = (book : Volume) × ReportsLoad wide plan r book × (left ≡ book_kept plan book)

-- how a load whose workers never give up may end: with such a report, or with such an error
abbrev pub EndsLoad : Bool → Plan → Result (Report × Option Volume) LoadError → Type 0
EndsLoad wide plan (Ok made) = HasReport wide plan made.0 made.1
EndsLoad wide plan (Err e) = FailsOpenLoad plan e
