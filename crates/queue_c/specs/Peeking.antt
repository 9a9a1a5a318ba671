-- What the call for C makes of its member that peeks at the first item.
use Rattle.std.specs.Prelude.{◌≡◌, ◌≢◌, ℕ, ◌↔◌, false, true, [], ◌∷◌, Option, None, Some}
use Rattle.std.specs.Option.{MatchOption}
use Rattle.pq_types.specs.Item.{Item}
use Rattle.pq_types.specs.Asked.{Answer, Reply}
use Rattle.pq_types.specs.declared.answer.Reply.TheVariants.{Empty, Least as LeastIs}
use Rattle.pq_types.specs.declared.answer.Answer.TheVariants.{Entered}
use Rattle.announce_board.specs.Tokens.{is_idle}
use Rattle.flat_queue.specs.Members.{Joined}
use Rattle.flat_queue.specs.Peeking.{PeeksBy}
use Rattle.flat_queue.specs.declared.peeking.Peeked.{Peeked}
use Rattle.queue_c.specs.Calls.{IsOneOf, Missing, SaysOwed, words_of_item}
use Rattle.queue_c.specs.Handles.{member_in, owner_in}
use Rattle.queue_c.specs.Plain.{Tells}
use Rattle.queue_c.specs.declared.codes.TheConstants.{LOCK_HELD, NO_HANDLE, OK, TOLD, WAITS}
use Rattle.queue_c.specs.declared.contents.Contents.{Contents}
use Rattle.queue_c.specs.declared.plain.PlainAnswer.{PlainAnswer}

-- this item was first in a queue whose journal had so many lines
abbrev pub seen_first : Item → ℕ → Peeked Item
seen_first x lines = record { first = Some x; entries = lines }

-- a reply to a peek that found this
abbrev pub reply_to_peek : Option Item → Reply
reply_to_peek None = Empty
reply_to_peek (Some x) = LeastIs x

-- What was seen, as an answer: its line is how many the journal had, none of which is of the peek.
abbrev pub seen_as : Peeked Item → Answer
seen_as seen = Entered seen.entries (reply_to_peek seen.first)

-- the idle member has found the lock free, and seen this
abbrev pub Peeking : Option Joined → Peeked Item → Option Joined → Type 0
Peeking (Some before) seen (Some after) = (is_idle before.pen.standing ≡ true) × PeeksBy words_of_item before seen after
Peeking before seen after = ⊥

-- A peek: its item is told, and how many lines the journal had, alone, and no wake is owed; or all that it saw, and whether one is.
pub record PeekAnswers (before : Option Contents) (code : ℕ) (first : Item) (told : PlainAnswer) (after : Option Contents) : Type 0 where
  pub peeked : code ≡ OK → Peeking (member_in before) (seen_first first told.line) (member_in after)
  pub answered : code ≡ TOLD → (seen : Peeked Item) × Peeking (member_in before) seen (member_in after) × Tells told (seen_as seen)
  pub settled : code ≡ OK → SaysOwed 0 (member_in after)
  pub owes : code ≡ TOLD → SaysOwed told.owes_wake (member_in after)
  pub misses : code ≡ LOCK_HELD → Missing (member_in before) (member_in after)
  pub refused : code ≢ OK → code ≢ TOLD → code ≢ LOCK_HELD → after ≡ before
  pub codes : IsOneOf code (OK ∷ TOLD ∷ LOCK_HELD ∷ NO_HANDLE ∷ WAITS ∷ [])
  pub no_member : (code ≡ NO_HANDLE) ↔ (member_in before ≡ None)
  pub waits : (code ≡ WAITS) ↔ MatchOption (member_in before) ⊥ (λ m. is_idle m.pen.standing ≡ false)
  pub owner : owner_in after ≡ owner_in before
