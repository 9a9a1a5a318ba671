-- What a step of a call answers to C, and what it makes of what its handle holds.
use Rattle.std.specs.Prelude.{◌≡◌, ◌≢◌, ℕ, ◌≤◌, ◌↔◌, false, true, [], ◌∷◌, Option, None, Some, IfSome, Result, Ok, Err}
use Rattle.std.specs.Option.{MatchOption}
use Rattle.pq_types.specs.Asked.{Request, Answer, Reply}
use Rattle.pq_types.specs.declared.answer.Answer.TheVariants.{Entered}
use Rattle.announce_board.specs.Tokens.{is_idle}
use Rattle.flat_queue.specs.Limits.{most_posts}
use Rattle.flat_queue.specs.Members.{Joined}
use Rattle.queue_pool.specs.declared.shared.Undone.{Undone}
use Rattle.queue_pool.specs.declared.shared.Undone.TheVariants.{Waits, Spent}
use Rattle.queue_pool.specs.Calling.{LeadsBehindLookBy, MissesBehindLookBy}
use Rattle.queue_c.specs.Calls.{IsOneOf, CarryingOut, SaysOwed, Looking, Missing, words_of_item}
use Rattle.queue_c.specs.Handles.{member_in, owner_in}
use Rattle.queue_c.specs.Plain.{Tells}
use Rattle.queue_c.specs.declared.codes.TheConstants.{IDLE, LOCK_HELD, NO_HANDLE, OK, POSTS_SPENT}
use Rattle.queue_c.specs.declared.codes.TheConstants.{TOLD, WAITS}
use Rattle.queue_c.specs.declared.contents.Contents.{Contents}
use Rattle.queue_c.specs.declared.plain.PlainAnswer.{PlainAnswer}

-- the waiting member has looked in vain for its answer, and then made a round
abbrev pub LeadingBehindLook : Option Joined → Option Joined → Type 0
LeadingBehindLook (Some before) (Some after) = LeadsBehindLookBy words_of_item before after
LeadingBehindLook before after = ⊥

-- the waiting member has looked in vain for its answer, and then found the lock held
abbrev pub MissingBehindLook : Option Joined → Option Joined → Type 0
MissingBehindLook (Some before) (Some after) = MissesBehindLookBy words_of_item before after
MissingBehindLook before after = ⊥

-- what a call came to has this code, and its answer, if it has one, is told
abbrev pub IsTold : Result Answer Undone → ℕ → PlainAnswer → Type 0
IsTold (Ok answer) code told = (code ≡ TOLD) × Tells told answer
IsTold (Err Waits) code told = code ≡ WAITS
IsTold (Err Spent) code told = code ≡ POSTS_SPENT
IsTold (Err why) code told = code ≡ LOCK_HELD

-- A call that carries this request out: its line has this reply, its number alone is told, and no wake is owed; or the whole answer
-- is told, and whether one is.
pub record TryCallAnswers (before : Option Contents) (request : Request) (reply : Reply) (code : ℕ) (told : PlainAnswer)
    (after : Option Contents) : Type 0 where
  pub entered : code ≡ OK → CarryingOut (member_in before) request (λ answer. answer ≡ Entered told.line reply) (member_in after)
  pub answered : code ≡ TOLD → CarryingOut (member_in before) request (Tells told) (member_in after)
  pub settled : code ≡ OK → SaysOwed 0 (member_in after)
  pub owes : code ≡ TOLD → SaysOwed told.owes_wake (member_in after)
  pub misses : code ≡ LOCK_HELD → Missing (member_in before) (member_in after)
  pub refused : code ≢ OK → code ≢ TOLD → code ≢ LOCK_HELD → after ≡ before
  pub codes : IsOneOf code (OK ∷ TOLD ∷ LOCK_HELD ∷ POSTS_SPENT ∷ NO_HANDLE ∷ WAITS ∷ [])
  pub no_member : (code ≡ NO_HANDLE) ↔ (member_in before ≡ None)
  pub waits : (code ≡ WAITS) ↔ MatchOption (member_in before) ⊥ (λ m. is_idle m.pen.standing ≡ false)
  pub spent : code ≡ POSTS_SPENT → IfSome (member_in before) (λ m. most_posts m.queue.room ≤ m.pen.posts)
  pub owner : owner_in after ≡ owner_in before

-- a step of a call that has posted, with the answer that is told
pub record StepAnswerAnswers (before : Option Contents) (code : ℕ) (told : PlainAnswer) (after : Option Contents) : Type 0 where
  pub codes : IsOneOf code (OK ∷ LOCK_HELD ∷ NO_HANDLE ∷ WAITS ∷ IDLE ∷ [])
  pub looked : code ≡ OK → Looking (member_in before) told (member_in after)
  pub led : code ≡ WAITS → LeadingBehindLook (member_in before) (member_in after)
  pub misses : code ≡ LOCK_HELD → MissingBehindLook (member_in before) (member_in after)
  pub idle : code ≡ IDLE → (after ≡ before) × IfSome (member_in before) (λ m. is_idle m.pen.standing ≡ true)
  pub no_member : (code ≡ NO_HANDLE) ↔ (member_in before ≡ None)
  pub refused : code ≡ NO_HANDLE → after ≡ before
  pub owner : owner_in after ≡ owner_in before
