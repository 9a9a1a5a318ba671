-- What one step of a call makes of its member.
use Rattle.std.specs.Prelude.{◌≡◌, ◌≢◌, ℕ, ◌+◌, ◌<◌, ◌≤◌, ◌⊎◌, ⊤, true, false, Option, Some, None, Result, Ok, Err}
use Rattle.pq_types.specs.Item.{Item}
use Rattle.pq_types.specs.Asked.{Request, Reply, Answer}
use Rattle.pq_types.specs.declared.answer.Answer.TheVariants as answer
use Rattle.desk_core.specs.Knows.{NoneAbove}
use Rattle.announce_board.specs.Tokens.{is_idle}
use Rattle.announce_board.specs.Asking.{asked_by, LooksBy, IsAnswerTo}
use Rattle.flat_queue.specs.Limits.{most_posts}
use Rattle.flat_queue.specs.Members.{Joined, StaysAtPlace}
use Rattle.flat_queue.specs.Calling.{WaitsOn, IsTold}
use Rattle.flat_queue.specs.OwnRequest.{CarriesOutBy}
use Rattle.flat_queue.specs.Turns.{FindsLockHeld, FindsHeldYet, Misses, LeadsBy, LooksInVainBy, TurnsInVainBy, LeadsItselfBy, WaitedBy}
use Rattle.flat_queue.specs.declared.error.CallError.{CallError}
use Rattle.flat_queue.specs.declared.error.CallError.TheVariants as error
use Rattle.flat_queue.specs.declared.gate.Turn.{Turn}
use Rattle.flat_queue.specs.declared.gate.Turn.TheVariants.{Lead, Look, GiveUp}
use Rattle.flat_queue.specs.declared.call_steps.CallStage.{CallStage as CallStageOf}
use Rattle.flat_queue.specs.declared.call_steps.CallStage.TheVariants as stage
use Rattle.flat_queue.specs.declared.call_steps.Came.{Came as CameOf}
use Rattle.flat_queue.specs.declared.call_steps.Came.TheVariants as came
use Rattle.flat_queue.specs.declared.call_steps.Then.{Then}
use Rattle.flat_queue.specs.declared.call_steps.Then.TheVariants as then
use Rattle.flat_queue.specs.declared.call_steps.CallStepped.{CallStepped as CallSteppedOf}
use Rattle.flat_queue.specs.declared.call_steps.CallStepped.TheVariants as stepped

-- how far a call has come, what it came to, and what a step of it came to, of items of any width
abbrev pub CallStage : Type 0
CallStage = CallStageOf Item

abbrev pub Came : Type 0
Came = CameOf Item

abbrev pub CallStepped : Type 0
CallStepped = CallSteppedOf Item

-- the member may take a step of a call at this stage: it is idle before it posts, and waits thereafter
abbrev pub FitsStage : CallStage → Joined → Type 0
FitsStage (stage.Tries request tries) m = is_idle m.pen.standing ≡ true
FitsStage stage.Looks m = is_idle m.pen.standing ≡ false
FitsStage stage.Waits m = is_idle m.pen.standing ≡ false

-- it is to carry its request out
abbrev pub IsTry : CallStage → Type 0
IsTry (stage.Tries request tries) = ⊤
IsTry stage.Looks = ⊥
IsTry stage.Waits = ⊥

-- the call is over, as its request was answered that there is no memory
abbrev pub IsForMemory : CallStepped → Type 0
IsForMemory result = result ≡ stepped.Ends (came.Answered answer.NoMemory)

-- what a call tells that came to this
abbrev pub came_to : Came → Result (ℕ × Reply) CallError
came_to (came.Answered (answer.Entered number reply)) = Ok (number, reply)
came_to (came.Answered answer.BookFull) = Err error.BookFull
came_to (came.Answered answer.NoMemory) = Err error.NoMemory
came_to (came.Answered (answer.Refused why)) = Err (error.Refused why)
came_to came.Spent = Err error.Spent
came_to came.Held = Err error.GaveUp
came_to came.Posted = Err error.GaveUp

-- the answer that it has then, or none
abbrev pub answer_of : Came → Option Answer
answer_of (came.Answered told) = Some told
answer_of came.Spent = None
answer_of came.Held = None
answer_of came.Posted = None

-- the member posted this request, of which the journal that it knew had no line; here, and in all that follows, items have so
-- many words
abbrev pub PostsOnceBy : ℕ → Request → Joined → Joined → Type 0
PostsOnceBy words request before after =
    NoneAbove before.pen.place before.pen.posts before.pen.known
    × ((now : ℕ) × (after ≡ record before { pen = asked_by words before.pen request now }))

-- What a member does that found the lock held, with so many tries left: it is to try again; or it has posted, as none is left; or
-- it gives up, as its gate may say so.
abbrev pub FindsHeldOnceBy : ℕ → (may : Turn → Type 0) → Request → (tries : ℕ) → Joined → Then → Joined → Type 0
FindsHeldOnceBy words may request tries before then.GivesUp after = may GiveUp × (after ≡ before)
FindsHeldOnceBy words may request tries before then.TriesAgain after = (0 < tries) × (after ≡ before)
FindsHeldOnceBy words may request tries before then.HasPosted after = (tries ≡ 0) × PostsOnceBy words request before after

-- The member, which has a serial left, carried this request out itself, and was answered so: not for want of memory where the
-- stores have room for all lines.
abbrev pub CarriesOutOnceBy : ℕ → (has_room : Type 0) → Request → Joined → Answer → Joined → Type 0
CarriesOutOnceBy words has_room request before told after =
    (before.pen.posts < most_posts before.queue.room) × CarriesOutBy words before request told after
    × IsAnswerTo before.queue.room request told × (has_room → told ≢ answer.NoMemory)

-- The member tried once to carry this request out. It carried it out, or had no serial left, and did nothing; or it found the lock
-- held, with a serial left: then it is to try again, with one try less, or has posted, as none was left; or it does nothing, as
-- its gate may say to give up.
abbrev pub TriesOnceBy : ℕ → (may : Turn → Type 0) → (has_room : Type 0) → Request → (tries : ℕ) → Joined → CallStepped → Joined → Type 0
TriesOnceBy words may has_room request tries before (stepped.Ends (came.Answered told)) after =
    CarriesOutOnceBy words has_room request before told after
TriesOnceBy words may has_room request tries before (stepped.Ends came.Spent) after =
    (most_posts before.queue.room ≤ before.pen.posts) × (after ≡ before)
TriesOnceBy words may has_room request tries before (stepped.Ends came.Held) after = may GiveUp × FindsHeldYet before after
TriesOnceBy words may has_room request tries before (stepped.Ends came.Posted) after = ⊥
TriesOnceBy words may has_room request tries before (stepped.Goes (stage.Tries next left)) after =
    (next ≡ request) × (left + 1 ≡ tries) × FindsHeldYet before after
TriesOnceBy words may has_room request tries before (stepped.Goes stage.Looks) after =
    (tries ≡ 0) × ((held : Joined) × FindsHeldYet before held × PostsOnceBy words request held after)
TriesOnceBy words may has_room request tries before (stepped.Goes stage.Waits) after = ⊥

-- What the member makes of a turn, which it takes behind a look in vain: it made a round; or it found the lock held, or left the
-- rounds to others; or it gives up.
abbrev pub TurnsOnceBy : ℕ → Turn → Joined → CallStepped → Joined → Type 0
TurnsOnceBy words turn before (stepped.Ends (came.Answered told)) after = ⊥
TurnsOnceBy words turn before (stepped.Ends came.Spent) after = ⊥
TurnsOnceBy words turn before (stepped.Ends came.Held) after = ⊥
TurnsOnceBy words turn before (stepped.Ends came.Posted) after = (turn ≡ GiveUp) × (after ≡ before)
TurnsOnceBy words turn before (stepped.Goes (stage.Tries next left)) after = ⊥
TurnsOnceBy words turn before (stepped.Goes stage.Looks) after = (turn ≡ Lead) × LeadsBy words before after
TurnsOnceBy words turn before (stepped.Goes stage.Waits) after =
    ((turn ≡ Look) × (after ≡ before)) ⊎ ((turn ≡ Lead) × FindsLockHeld before after)

-- The waiting member looked, and was told this answer. It is none for want of memory where the stores have room for all lines.
pub record LooksUpBy (words : ℕ) (has_room : Type 0) (before : Joined) (found : Answer) (after : Joined) : Type 0 where
  pub stays : StaysAtPlace before after
  pub looks : LooksBy words before.pen (Some found) after.pen
  pub told : IsTold before found after
  pub memory : has_room → found ≢ answer.NoMemory

-- The waiting member looked once. It was told its answer; or it found none, and then made a round of its own, left the rounds
-- to others, or found the lock held, as its gate may say; or it gives up, as that may say so.
abbrev pub AsksOnceBy : ℕ → (may : Turn → Type 0) → (has_room : Type 0) → Joined → CallStepped → Joined → Type 0
AsksOnceBy words may has_room before (stepped.Ends (came.Answered told)) after = LooksUpBy words has_room before told after
AsksOnceBy words may has_room before (stepped.Ends came.Spent) after = ⊥
AsksOnceBy words may has_room before (stepped.Ends came.Held) after = ⊥
AsksOnceBy words may has_room before (stepped.Ends came.Posted) after = may GiveUp × LooksInVainBy words before after
AsksOnceBy words may has_room before (stepped.Goes (stage.Tries next left)) after = ⊥
AsksOnceBy words may has_room before (stepped.Goes stage.Looks) after = LeadsItselfBy words may before after
AsksOnceBy words may has_room before (stepped.Goes stage.Waits) after = TurnsInVainBy words may before after

-- What a step at this stage made of its member: it tried to carry its request out once, or looked for its answer once.
abbrev pub CallStepsBy : ℕ → (may : Turn → Type 0) → (has_room : Type 0) → CallStage → Joined → CallStepped → Joined → Type 0
CallStepsBy words may has_room (stage.Tries request tries) before result after =
    TriesOnceBy words may has_room request tries before result after
CallStepsBy words may has_room stage.Looks before result after = AsksOnceBy words may has_room before result after
CallStepsBy words may has_room stage.Waits before result after = AsksOnceBy words may has_room before result after

-- The member has tried the lock again, found it held each time, and has so many tries left.
pub record HasTried (before now : Joined) (left : ℕ) : Type 0 where
  pub tries : ℕ
  pub left_is : left + tries ≡ before.rest.tries
  pub misses : Misses tries before now
  pub queue : now.queue ≡ before.queue
  pub standing : now.pen.standing ≡ before.pen.standing
  pub posts : now.pen.posts ≡ before.pen.posts

-- The member has posted this request, and waits for its answer, so far by turns to lead that won no round, and by one round
-- of its own or none.
pub record HasPostedBy (words : ℕ) (request : Request) (before now : Joined) : Type 0 where
  pub posted : Joined
  pub posts : PostsOnceBy words request before posted
  pub waits : WaitsOn posted now
  pub turns : WaitedBy words (λ turn. turn ≡ Lead) posted now

-- A call of a member that stood so, once it had found the lock held, has come to this stage: it has found it held at each
-- further try, and is to try again; or it has posted behind the last one.
abbrev pub HasComeToBy : ℕ → Joined → Request → CallStage → Joined → Type 0
HasComeToBy words began request (stage.Tries next left) now = (next ≡ request) × HasTried began now (left + 1)
HasComeToBy words began request stage.Looks now = (held : Joined) × HasTried began held 0 × HasPostedBy words request held now
HasComeToBy words began request stage.Waits now = (held : Joined) × HasTried began held 0 × HasPostedBy words request held now
