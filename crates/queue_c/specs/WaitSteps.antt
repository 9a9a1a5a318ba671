-- What the calls for C answer by which one may wait, and what they make of what its handle holds.
use Rattle.std.specs.Prelude.{◌≡◌, ◌≢◌, ℕ, ◌≤◌, ◌↔◌, ◌==◌, nat_le, if◌then◌else◌, false, true, [], ◌∷◌}
use Rattle.std.specs.Prelude.{Option, None, Some, IfSome, IsSome}
use Rattle.std.specs.Option.{MatchOption}
use Rattle.pq_types.specs.Item.{Item}
use Rattle.pq_types.specs.Asked.{Answer}
use Rattle.pq_types.specs.declared.answer.Answer.TheVariants.{Refused}
use Rattle.pq_types.specs.declared.answer.Refusal.TheVariants.{Full}
use Rattle.desk_core.specs.Pen.{after_hand_out}
use Rattle.announce_board.specs.Waking.{IsMaskOf}
use Rattle.announce_board.specs.Tokens.{is_idle}
use Rattle.flat_queue.specs.Limits.{most_posts}
use Rattle.flat_queue.specs.Looking.{Looked}
use Rattle.flat_queue.specs.Members.{Joined}
use Rattle.flat_queue.specs.WaitSteps.{TakesOrWaitsBy, PushesOrWaitsBy, LeavesTheList}
use Rattle.flat_queue.specs.declared.looking.Wanted.TheVariants.{UpTo}
use Rattle.flat_queue.specs.declared.wait_steps.Entry.{Entry}
use Rattle.flat_queue.specs.declared.wait_steps.Entry.TheVariants as entry
use Rattle.flat_queue.specs.declared.wait_steps.Patience.{Patience}
use Rattle.flat_queue.specs.declared.wait_steps.Patience.TheVariants as way
use Rattle.flat_queue.specs.declared.wait_steps.PushedOr.TheVariants as pushed
use Rattle.flat_queue.specs.declared.wait_steps.RoomWait.{RoomWait}
use Rattle.flat_queue.specs.declared.wait_steps.RoomWait.TheVariants.{Sleeps, Listens}
use Rattle.queue_pool.specs.Shared.{MayCall}
use Rattle.queue_c.specs.Calls.{IsOneOf, Missing, SaysOwed, words_of_item}
use Rattle.queue_c.specs.Handles.{member_in, owner_in}
use Rattle.queue_c.specs.Looking.{told_as}
use Rattle.queue_c.specs.Plain.{Tells}
use Rattle.queue_c.specs.declared.codes.TheConstants.{ENTERED, LOCK_HELD, NO_HANDLE, OK, POSTS_SPENT}
use Rattle.queue_c.specs.declared.codes.TheConstants.{UNKNOWN, WAITS, WATCHES}
use Rattle.queue_c.specs.declared.contents.Contents.{Contents}
use Rattle.queue_c.specs.declared.plain.PlainAnswer.{PlainAnswer}

-- the number of one that waits, if it is one: below 64
abbrev pub number_of : ℕ → Option ℕ
number_of number = if nat_le 64 number then None else Some number

-- how one waits that says this by a number, if there is such a way, up to this priority
abbrev pub patience_of : ℕ → ℕ → Option Patience
patience_of wants priority =
    if wants == 0 then Some way.Leaves
    else if wants == 1 then Some way.Any
    else if wants == 2 then Some way.Due
    else if wants == 3 then Some (way.UpTo priority)
    else if wants == 4 then Some way.Alarm else None

-- the two, if there are both
abbrev pub both : Option ℕ → Option Patience → Option (ℕ × Patience)
both None patience = None
both (Some number) None = None
both (Some number) (Some patience) = Some (number, patience)

-- the number and the way of one that waits so, if there are such
abbrev pub wait_of : (number wants priority : ℕ) → Option (ℕ × Patience)
wait_of number wants priority = both (number_of number) (patience_of wants priority)

-- how a push waits for room: as a thread, or as a listener
abbrev pub room_wait : ℕ → RoomWait
room_wait listens = if listens == 0 then Sleeps else Listens

-- The idle member has found the lock free, and taken the first item out up to this priority, or waits under this number, where it
-- has such patience. It stands so then, and what it looked at is told.
abbrev pub TakingOrWaiting : Option Joined → ℕ → Option (ℕ × Patience) → Entry → PlainAnswer → Option Joined → Type 0
TakingOrWaiting (Some before) bound (Some wait) stands told (Some after) =
    MayCall before
    × ((seen : Looked) × TakesOrWaitsBy words_of_item wait.0 (UpTo bound) wait.1 before seen stands after
    × Tells told (told_as seen))
TakingOrWaiting before bound wait stands told after = ⊥

-- The idle member has found the lock free, and carried the push of this item out, with the answer that is told, which is not that
-- the queue is full. It does not wait under this number then.
abbrev pub Pushing : Option Joined → Option ℕ → Item → RoomWait → PlainAnswer → Option Joined → Type 0
Pushing (Some before) (Some number) x wait told (Some after) =
    MayCall before
    × ((answer : Answer) × PushesOrWaitsBy words_of_item number x wait before (pushed.Answered answer) after
    × (answer ≢ Refused Full) × Tells told answer)
Pushing before number x wait told after = ⊥

-- the idle member has found the lock free, and waits for room under this number, and it is told that the queue is full
abbrev pub WaitingForRoom : Option Joined → Option ℕ → Item → RoomWait → PlainAnswer → Option Joined → Type 0
WaitingForRoom (Some before) (Some number) x wait told (Some after) =
    MayCall before × PushesOrWaitsBy words_of_item number x wait before pushed.Waits after × Tells told (Refused Full)
WaitingForRoom before number x wait told after = ⊥

-- the member has found the lock free, and those of the mask are among those who wait no more
abbrev pub Leaving : Option Joined → (mask : ℕ) → Option Joined → Type 0
Leaving (Some before) mask (Some after) = LeavesTheList mask before after
Leaving before mask after = ⊥

-- the mask has exactly those whom the member owed a wake, which owes none from then on
abbrev pub HandingOut : Option Joined → (mask : ℕ) → Option Joined → Type 0
HandingOut (Some before) mask (Some after) =
    IsMaskOf mask before.pen.owed × (after ≡ record before { pen = after_hand_out before.pen })
HandingOut before mask after = ⊥

-- a take up to this priority, or a wait for one, if there is such a number and such a way to wait, with what is told
pub record TakeOrWaitAnswers (before : Option Contents) (bound : ℕ) (wait : Option (ℕ × Patience)) (code : ℕ)
    (told : PlainAnswer) (after : Option Contents) : Type 0 where
  pub out : code ≡ OK → TakingOrWaiting (member_in before) bound wait entry.Out told (member_in after)
  pub entered : code ≡ ENTERED → TakingOrWaiting (member_in before) bound wait entry.Waits told (member_in after)
  pub watches : code ≡ WATCHES → TakingOrWaiting (member_in before) bound wait entry.Watches told (member_in after)
  pub owes : IsOneOf code (OK ∷ ENTERED ∷ WATCHES ∷ []) → SaysOwed told.owes_wake (member_in after)
  pub misses : code ≡ LOCK_HELD → Missing (member_in before) (member_in after)
  pub refused : code ≢ OK → code ≢ ENTERED → code ≢ WATCHES → code ≢ LOCK_HELD → after ≡ before
  pub codes : IsOneOf code (OK ∷ ENTERED ∷ WATCHES ∷ LOCK_HELD ∷ POSTS_SPENT ∷ NO_HANDLE ∷ WAITS ∷ UNKNOWN ∷ [])
  pub no_member : (code ≡ NO_HANDLE) ↔ (member_in before ≡ None)
  pub unknown : (code ≡ UNKNOWN) ↔ (IsSome (member_in before) × (wait ≡ None))
  pub waits : (code ≡ WAITS) ↔ MatchOption (member_in before) ⊥ (λ m. IsSome wait × (is_idle m.pen.standing ≡ false))
  pub spent : code ≡ POSTS_SPENT → IfSome (member_in before) (λ m. most_posts m.queue.room ≤ m.pen.posts)
  pub owner : owner_in after ≡ owner_in before

-- a push of this item, or a wait for room, if there is such a number, with what is told
pub record PushOrWaitAnswers (before : Option Contents) (number : Option ℕ) (x : Item) (wait : RoomWait) (code : ℕ)
    (told : PlainAnswer) (after : Option Contents) : Type 0 where
  pub out : code ≡ OK → Pushing (member_in before) number x wait told (member_in after)
  pub entered : code ≡ ENTERED → WaitingForRoom (member_in before) number x wait told (member_in after)
  pub owes : IsOneOf code (OK ∷ ENTERED ∷ []) → SaysOwed told.owes_wake (member_in after)
  pub misses : code ≡ LOCK_HELD → Missing (member_in before) (member_in after)
  pub refused : code ≢ OK → code ≢ ENTERED → code ≢ LOCK_HELD → after ≡ before
  pub codes : IsOneOf code (OK ∷ ENTERED ∷ LOCK_HELD ∷ POSTS_SPENT ∷ NO_HANDLE ∷ WAITS ∷ UNKNOWN ∷ [])
  pub no_member : (code ≡ NO_HANDLE) ↔ (member_in before ≡ None)
  pub unknown : (code ≡ UNKNOWN) ↔ (IsSome (member_in before) × (number ≡ None))
  pub waits : (code ≡ WAITS) ↔ MatchOption (member_in before) ⊥ (λ m. IsSome number × (is_idle m.pen.standing ≡ false))
  pub spent : code ≡ POSTS_SPENT → IfSome (member_in before) (λ m. most_posts m.queue.room ≤ m.pen.posts)
  pub owner : owner_in after ≡ owner_in before

-- those of a mask leave those who wait
pub record LeaveAnswers (before : Option Contents) (mask code : ℕ) (after : Option Contents) : Type 0 where
  pub left : code ≡ OK → Leaving (member_in before) mask (member_in after)
  pub misses : code ≡ LOCK_HELD → Missing (member_in before) (member_in after)
  pub refused : code ≢ OK → code ≢ LOCK_HELD → after ≡ before
  pub codes : IsOneOf code (OK ∷ LOCK_HELD ∷ NO_HANDLE ∷ [])
  pub no_member : (code ≡ NO_HANDLE) ↔ (member_in before ≡ None)
  pub owner : owner_in after ≡ owner_in before

-- whom the member owes a wake is handed out; where the handle holds none, nobody is
pub record WakesAnswers (before : Option Contents) (mask : ℕ) (after : Option Contents) : Type 0 where
  pub handed_out : IsSome (member_in before) → HandingOut (member_in before) mask (member_in after)
  pub none : member_in before ≡ None → (mask ≡ 0) × (after ≡ before)
  pub owner : owner_in after ≡ owner_in before
