-- What the calls for C that ask something of a member answer, and what they make of what its handle holds.
use Rattle.std.specs.Prelude.{◌≡◌, ◌≢◌, ℕ, ◌≤◌, ◌↔◌, false, true, [], ◌∷◌, Option, None, IfSome, IsSome}
use Rattle.std.specs.Option.{MatchOption}
use Rattle.pq_types.specs.Asked.{Request}
use Rattle.announce_board.specs.Tokens.{is_idle}
use Rattle.flat_queue.specs.Limits.{most_posts}
use Rattle.flat_queue.specs.Members.{Joined}
use Rattle.flat_queue.specs.declared.counting.Counts.{Counts}
use Rattle.flat_queue.specs.declared.looking.Wanted.{Wanted}
use Rattle.queue_c.specs.Handles.{member_in, owner_in}
use Rattle.queue_c.specs.Calls.{IsOneOf, Posting, Missing, SaysOwed}
use Rattle.queue_c.specs.Looking.{PoppingOrLooking}
use Rattle.queue_c.specs.Counting.{Counting}
use Rattle.queue_c.specs.declared.codes.TheConstants.{LOCK_HELD, NO_HANDLE, OK, POSTS_SPENT}
use Rattle.queue_c.specs.declared.codes.TheConstants.{UNKNOWN, WAITS}
use Rattle.queue_c.specs.declared.contents.Contents.{Contents}
use Rattle.queue_c.specs.declared.plain.PlainAnswer.{PlainAnswer}

-- a post of this request, if there is one of its number
pub record PostAnswers (before : Option Contents) (request : Option Request) (code : ℕ)
    (after : Option Contents) : Type 0 where
  pub posted : code ≡ OK → Posting (member_in before) request (member_in after)
  pub refused : code ≢ OK → after ≡ before
  pub codes : IsOneOf code (OK ∷ POSTS_SPENT ∷ NO_HANDLE ∷ WAITS ∷ UNKNOWN ∷ [])
  pub no_member : (code ≡ NO_HANDLE) ↔ (member_in before ≡ None)
  pub unknown : (code ≡ UNKNOWN) ↔ (IsSome (member_in before) × (request ≡ None))
  pub waits : (code ≡ WAITS) ↔ MatchOption (member_in before) ⊥ (λ m. IsSome request × (is_idle m.pen.standing ≡ false))
  pub spent : code ≡ POSTS_SPENT → IfSome (member_in before) (λ m. most_posts m.queue.room ≤ m.pen.posts)
  pub owner : owner_in after ≡ owner_in before

-- a call that the member carries out itself: what it has done where it found the lock free, with the answer that is told, and
-- whether a wake is owed
pub record OwnAnswers (Done : Option Joined → PlainAnswer → Option Joined → Type 0) (before : Option Contents) (code : ℕ)
    (told : PlainAnswer) (after : Option Contents) : Type 0 where
  pub carried_out : code ≡ OK → Done (member_in before) told (member_in after)
  pub owes : code ≡ OK → SaysOwed told.owes_wake (member_in after)
  pub misses : code ≡ LOCK_HELD → Missing (member_in before) (member_in after)
  pub refused : code ≢ OK → code ≢ LOCK_HELD → after ≡ before
  pub codes : IsOneOf code (OK ∷ LOCK_HELD ∷ POSTS_SPENT ∷ NO_HANDLE ∷ WAITS ∷ [])
  pub no_member : (code ≡ NO_HANDLE) ↔ (member_in before ≡ None)
  pub waits : (code ≡ WAITS) ↔ MatchOption (member_in before) ⊥ (λ m. is_idle m.pen.standing ≡ false)
  pub spent : code ≡ POSTS_SPENT → IfSome (member_in before) (λ m. most_posts m.queue.room ≤ m.pen.posts)
  pub owner : owner_in after ≡ owner_in before

-- of a pop or a look that takes what it wants
abbrev pub LooksAnswers : Option Contents → Wanted → ℕ → PlainAnswer → Option Contents → Type 0
LooksAnswers before wants = OwnAnswers (λ was told is. PoppingOrLooking was wants told is) before

-- a count of the items, with the numbers that are told, and whether a wake is owed
pub record CountAnswers (before : Option Contents) (code : ℕ) (counts : Counts) (owes : ℕ) (after : Option Contents) : Type 0 where
  pub counted : code ≡ OK → Counting (member_in before) counts (member_in after)
  pub owed : code ≡ OK → SaysOwed owes (member_in after)
  pub misses : code ≡ LOCK_HELD → Missing (member_in before) (member_in after)
  pub refused : code ≢ OK → code ≢ LOCK_HELD → after ≡ before
  pub codes : IsOneOf code (OK ∷ LOCK_HELD ∷ NO_HANDLE ∷ WAITS ∷ [])
  pub no_member : (code ≡ NO_HANDLE) ↔ (member_in before ≡ None)
  pub waits : (code ≡ WAITS) ↔ MatchOption (member_in before) ⊥ (λ m. is_idle m.pen.standing ≡ false)
  pub owner : owner_in after ≡ owner_in before
