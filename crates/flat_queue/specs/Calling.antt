-- What a call that posts and waits for its reply makes of its member.
use Rattle.std.specs.Prelude.{◌≡◌, ℕ, ◌+◌, ◌<◌, ◌≤◌, ◌↔◌, List, [], ◌∷◌, ◌++◌, length, Option, Some, None}
use Rattle.std.specs.Prelude.{Result, Ok, Err, IfOk, IfErr, IsErrOf}
use Rattle.pq_types.specs.Item.{Item}
use Rattle.pq_types.specs.Asked.{Request, Operation}
use Rattle.pq_types.specs.Operation.{Asked, request_of}
use Rattle.pq_types.specs.Asked.{Reply}
use Rattle.pq_types.specs.declared.answer.Reply.TheVariants.{Got, Empty, Least as LeastIs}
use Rattle.pq_types.specs.Asked.{Answer}
use Rattle.pq_types.specs.declared.answer.Answer.TheVariants.{Entered}
use Rattle.pq_types.specs.declared.answer.Answer.TheVariants as answer
use Rattle.pq_types.specs.declared.answer.Refusal.{Refusal}
use Rattle.pq_types.specs.declared.answer.Refusal.TheVariants.{Shut, Unarchived, Full}
use Rattle.flat_queue.specs.Limits.{most_posts}
use Rattle.pq_types.specs.Queue.{IsPush}
use Rattle.pq_types.specs.Mail.{IsLineNumber}
use Rattle.desk_core.specs.Beyond.{IsBeyond}
use Rattle.desk_core.specs.Calls.{call_of, gained}
use Rattle.desk_core.specs.Rule.{StartsWith}
use Rattle.desk_core.specs.declared.model.Call.{Call}
use Rattle.desk_core.specs.declared.model.PenState.{PenState}
use Rattle.desk_core.specs.declared.model.Standing.{Standing}
use Rattle.desk_core.specs.declared.model.Standing.TheVariants.{Idle, Waiting}
use Rattle.desk_core.specs.Knows.{IsReplyTo}
use Rattle.announce_board.specs.Asking.{IsAnswerTo, IsBarredBy, IsAboveAll, IsFullFor, asked_by}
use Rattle.flat_queue.specs.Members.{Joined}
use Rattle.flat_queue.specs.declared.error.CallError.{CallError}
use Rattle.flat_queue.specs.declared.error.CallError.TheVariants.{NoMemory, BookFull, Spent, GaveUp}
use Rattle.flat_queue.specs.declared.error.CallError.TheVariants as error
use Rattle.flat_queue.specs.declared.gate.Turn.{Turn}
use Rattle.flat_queue.specs.declared.gate.Turn.TheVariants.{Lead}
use Rattle.flat_queue.specs.Turns.{EndsWaitingBy}

-- The member is one of the same queue, with the same id, at the same place, leads where it led, and rests as it did.
-- It may have made rounds meanwhile: the journal that it knows begins with the one before.
pub record StaysMember (before after : Joined) : Type 0 where
  pub queue : after.queue ≡ before.queue
  pub id : after.comer.id ≡ before.comer.id
  pub turns : after.comer.turns ≡ before.comer.turns
  pub place : after.pen.place ≡ before.pen.place
  pub room : after.pen.room ≡ before.pen.room
  pub leading : after.pen.leading ≡ before.pen.leading
  pub rest : after.rest ≡ before.rest
  pub known : StartsWith after.pen.known before.pen.known

-- the member has used one serial more, for a post or for a request of its own, now stands so, and has
-- these calls
pub record HasPostedOne (before : Joined) (now : Standing) (calls : List Call) (after : Joined) : Type 0 where
  pub stays : StaysMember before after
  pub posts : after.pen.posts ≡ before.pen.posts + 1
  pub standing : after.pen.standing ≡ now
  pub mine : after.pen.mine ≡ calls

-- The pen keeps the positions at which the call of its next serial began and ended in the history of its desk.
pub record KeepsTimes (before after : PenState) : Type 0 where
  pub began : ℕ
  pub ended : ℕ
  pub begins : after.begins ≡ before.begins ++ (before.posts + 1, began) ∷ []
  pub ends : after.ends ≡ before.ends ++ (before.posts + 1, ended) ∷ []

-- The operation, a request or the use of a ticket, was entered in the journal on the line of this number, for which the
-- journal has room, and
-- which is behind those of all its calls before, and behind the whole journal that it knew: that of its last release,
-- and of the notes that it wrote and heard since,
-- with this reply, which is one to such an operation: the member is idle, has this one call more, and keeps when it began and
-- ended.
pub record IsEntered (before : Joined) (operation : Operation) (number : ℕ) (reply : Reply) (after : Joined) : Type 0 where
  pub member : HasPostedOne before (Idle None) (before.pen.mine ++ call_of number (before.pen.posts + 1) operation reply ∷ []) after
  pub reply_is : IsReplyTo (request_of operation) reply
  pub line : IsLineNumber number
  pub within : number ≤ before.queue.room
  pub behind : IsAboveAll number before.pen.mine
  pub beyond : length before.pen.known < number
  pub times : KeepsTimes before.pen after.pen

-- so was this request
abbrev pub IsCalled : (before : Joined) (request : Request) (number : ℕ) (reply : Reply) (after : Joined) → Type 0
IsCalled before request number reply after = IsEntered before (Asked request) number reply after

-- what each refusal says: the request has no line and the member is idle, and one by the queue's rules is of a request that
-- these may refuse; or nothing was done, as no serial was left; or the gate may say so and the request stays posted
abbrev pub IsRefused : (may_give_up : Type 0) → Joined → Request → CallError → Joined → Type 0
IsRefused may_give_up before request NoMemory after = IsPush request × HasPostedOne before (Idle None) before.pen.mine after
IsRefused may_give_up before request BookFull after = HasPostedOne before (Idle None) before.pen.mine after
IsRefused may_give_up before request (error.Refused why) after =
    IsBarredBy (Asked request) why × HasPostedOne before (Idle None) before.pen.mine after
IsRefused may_give_up before request Spent after = (most_posts before.queue.room ≤ before.pen.posts) × (after ≡ before)
IsRefused may_give_up before request GaveUp after = may_give_up × HasPostedOne before (Waiting request) before.pen.mine after

-- what an answer comes to as the end of a call, and that there is none
abbrev pub ended : Option Answer → Result (ℕ × Reply) CallError
ended None = Err GaveUp
ended (Some (Entered number reply)) = Ok (number, reply)
ended (Some answer.BookFull) = Err BookFull
ended (Some answer.NoMemory) = Err NoMemory
ended (Some (answer.Refused why)) = Err (error.Refused why)

-- The member posted this request and waited for its answer. Each turn found no answer and then, where it
-- was one to lead, the lock held; but for one round of its own at most, behind which it has its answer.
-- What the call tells is the answer that its last look found; it gave up where that found none. Items
-- have so many words.
abbrev pub WaitsForBy : ℕ → (may : Turn → Type 0) → Joined → Request → Result (ℕ × Reply) CallError → Joined → Type 0
WaitsForBy words may before request result after =
    (answer : Option Answer) × (result ≡ ended answer)
    × ((now : ℕ) × EndsWaitingBy words may (record before { pen = asked_by words before.pen request now }) answer after)

-- the result of a call, with the line and the reply that its Ok tells
abbrev pub told_by : {A : Type 0} → (A → ℕ × Reply) → Result A CallError → Result (ℕ × Reply) CallError
told_by told (Ok a) = Ok (told a)
told_by told (Err error) = Err error

-- the same, where each turn of the call is to try a round
abbrev pub PostsAndWaitsBy : ℕ → Joined → Request → Result (ℕ × Reply) CallError → Joined → Type 0
PostsAndWaitsBy words = WaitsForBy words (λ turn. turn ≡ Lead)

-- The same of narrow items, which have one word.
abbrev pub WaitsFor : (may : Turn → Type 0) → Joined → Request → Result (ℕ × Reply) CallError → Joined → Type 0
WaitsFor = WaitsForBy 1

abbrev pub PostsAndWaits : Joined → Request → Result (ℕ × Reply) CallError → Joined → Type 0
PostsAndWaits = PostsAndWaitsBy 1

-- What a call of this request came to, which takes its turns as `Turns` says, and never gives up. `told` is
-- the number of the journal line and the reply that it tells.
-- - ok: the request stands in the journal on the line that was told, once.
-- - err: it has no line, and the refusal says why.
-- - full: it says that the journal is full only where it was.
-- - spent: the member had no serial left exactly where the call says so.
-- - turns: else it came to its end by such turns, and tells what these found.
-- - never_gives_up: no call gives up.
-- - memory: none is refused for want of memory where the stores have room for all lines.
pub record MakesCall {A : Type 0} (Turns : Joined → Request → Result (ℕ × Reply) CallError → Joined
    → Type 0) (told : A → ℕ × Reply) (has_room : Type 0) (before : Joined) (request : Request) (result : Result A CallError)
    (after : Joined) : Type 0 where
  pub ok : IfOk result (λ a. IsCalled before request (told a).0 (told a).1 after)
  pub err : IfErr result (λ error. IsRefused ⊥ before request error after)
  pub full : IsErrOf result BookFull → IsFullFor after.pen
  pub spent : IsErrOf result Spent ↔ (most_posts before.queue.room ≤ before.pen.posts)
  pub turns : before.pen.posts < most_posts before.queue.room → Turns before request (told_by told result) after
  pub never_gives_up : ¬ (IsErrOf result GaveUp)
  pub memory : has_room → ¬ (IsErrOf result NoMemory)

-- the reply that a pop gives which took this item out, or found none
abbrev pub popped : Option Item → Reply
popped None = Empty
popped (Some x) = Got x

-- the reply that a least gives which found this item first, or found none
abbrev pub found_first : Option Item → Reply
found_first None = Empty
found_first (Some x) = LeastIs x

-- the number of each refusal by the queue's rules
abbrev pub refusal_code : Refusal → ℕ
refusal_code Shut = 51
refusal_code Unarchived = 52
refusal_code Full = 53

-- the number of each refusal
abbrev pub call_code : CallError → ℕ
call_code NoMemory = 9
call_code BookFull = 10
call_code Spent = 11
call_code GaveUp = 12
call_code (error.Refused why) = refusal_code why

-- the waiting member still waits for the answer to its last post
pub record WaitsOn (before after : Joined) : Type 0 where
  pub stays : StaysMember before after
  pub posts : after.pen.posts ≡ before.pen.posts
  pub standing : after.pen.standing ≡ before.pen.standing
  pub mine : after.pen.mine ≡ before.pen.mine
  pub begins : after.pen.begins ≡ before.pen.begins
  pub ends : after.pen.ends ≡ before.pen.ends

-- The member, which waited, is idle and has been told this answer. The line of an entered one is behind
-- those of all its calls before, and BookFull was answered where the journal was full.
pub record IsTold (before : Joined) (told : Answer) (after : Joined) : Type 0 where
  pub request : Request
  pub waited : before.pen.standing ≡ Waiting request
  pub stays : StaysMember before after
  pub posts : after.pen.posts ≡ before.pen.posts
  pub standing : after.pen.standing ≡ Idle None
  pub mine : after.pen.mine ≡ before.pen.mine ++ gained before.pen.posts request told
  pub answers : IsAnswerTo before.queue.room request told
  pub behind : (number : ℕ) (reply : Reply) → told ≡ Entered number reply → IsAboveAll number before.pen.mine
  pub beyond : (number : ℕ) (reply : Reply) → told ≡ Entered number reply → IsBeyond before.pen number
  pub full : told ≡ answer.BookFull → IsFullFor after.pen
  pub begins : after.pen.begins ≡ before.pen.begins
  pub ended : ℕ
  pub ends : after.pen.ends ≡ before.pen.ends ++ (before.pen.posts, ended) ∷ []

-- The lines of a member's calls rise: of two of them, with others between or none, the later one has the
-- greater number.
abbrev pub LinesRise : Type 0
LinesRise =
    (a b c d : Joined) (first second : Request) (number number' : ℕ) (reply reply' : Reply) (between : List Call)
    → IsCalled a first number reply b → c.pen.mine ≡ b.pen.mine ++ between → IsCalled c second number' reply' d → number < number'
