-- What the calls for C that carry out a batch answer, and what they make of what a handle holds.
use Rattle.std.specs.Prelude.{◌≡◌, ◌≢◌, ℕ, ◌≤◌, ◌↔◌, min, false, true, List, [], ◌∷◌, ◌++◌, map, length, take, drop}
use Rattle.std.specs.Prelude.{Option, Some, None, Result, Ok, Err}
use Rattle.std.specs.Option.{MatchOption}
use Rattle.pq_types.specs.Item.{Item}
use Rattle.announce_board.specs.Tokens.{is_idle}
use Rattle.flat_queue.specs.Calling.{call_code}
use Rattle.flat_queue.specs.Members.{Joined}
use Rattle.flat_queue.specs.declared.batches.Batch.{Batch}
use Rattle.flat_queue.specs.declared.batches.Popped.{Popped}
use Rattle.flat_queue.specs.declared.error.CallError.{CallError}
use Rattle.queue_pool.specs.Shared.{TriesPushesBy, TriesPopsBy}
use Rattle.queue_pool.specs.declared.shared.Undone.{Undone}
use Rattle.queue_c.specs.Handles.{member_in, owner_in}
use Rattle.queue_c.specs.Calls.{IsOneOf, Missing, SaysOwed, words_of_item}
use Rattle.queue_c.specs.Looking.{told_as}
use Rattle.queue_c.specs.Plain.{plain_item, told_item, told_answer}
use Rattle.queue_c.specs.declared.buffers.TheConstants.{MOST_MANY}
use Rattle.queue_c.specs.declared.codes.TheConstants.{LOCK_HELD, NO_HANDLE, OK, WAITS}
use Rattle.queue_c.specs.declared.contents.Contents.{Contents}
use Rattle.queue_c.specs.declared.plain.PlainItem.{PlainItem}
use Rattle.queue_c.specs.declared.plain_batch.PlainBatch.{PlainBatch}
use Rattle.queue_c.specs.declared.plain_batch.PlainPopped.{PlainPopped}

-- the code of the refusal that ended a batch, or 0
abbrev pub refusal_code : Option CallError → ℕ
refusal_code None = 0
refusal_code (Some error) = call_code error

-- the batch for C, with this word on whether a wake is owed
abbrev pub told_batch : ℕ → Batch → PlainBatch
told_batch wake batch =
    record { done = batch.done; first = batch.first; refused = refusal_code batch.refused; owes_wake = wake }

-- the batch of pops for C, with this word on whether a wake is owed
abbrev pub told_popped : ℕ → Popped Item → PlainPopped
told_popped wake popped =
    record { batch = told_batch wake popped.batch; next = told_answer wake (told_as popped.next) }

-- this is the batch for C, and says whether a wake is owed, by 0 or 1
abbrev pub TellsBatch : PlainBatch → Batch → Type 0
TellsBatch told batch = (told ≡ told_batch told.owes_wake batch) × (told.owes_wake ≤ 1)

-- the same of a batch of pops
abbrev pub TellsPopped : PlainPopped → Popped Item → Type 0
TellsPopped told popped = (told ≡ told_popped told.batch.owes_wake popped) × (told.batch.owes_wake ≤ 1)

-- The idle member has found the lock free, and pushed of the first items, no more than one call takes in, as many as are told:
-- all of them, unless it tells what refused the next.
abbrev pub PushingMany : List PlainItem → Option Joined → PlainBatch → Option Joined → Type 0
PushingMany items (Some before) told (Some after) =
    (batch : Batch)
    × TriesPushesBy words_of_item before (map plain_item (take MOST_MANY items)) (Ok batch) after
    × TellsBatch told batch
PushingMany items before told after = ⊥

-- the first so many slots are told in the buffer, which has what it had behind them
abbrev pub GivesOut : List Item → ℕ → List PlainItem → List PlainItem → Type 0
GivesOut slots done was items = items ≡ map told_item (take done slots) ++ drop done was

-- The idle member has found the lock free, and taken the first items out while their priorities were at most the bound, as many
-- as are told: as long as there was such an item, and a slot for it, of which a call has no more than the buffer has. It tells
-- what a look finds then, too.
abbrev pub PoppingMany : ℕ → List PlainItem → List PlainItem → Option Joined → PlainPopped → Option Joined → Type 0
PoppingMany bound was items (Some before) told (Some after) =
    (popped : Popped Item) × (slots : List Item)
    × (length slots ≡ min MOST_MANY (length was))
    × TriesPopsBy words_of_item bound before slots (Ok popped) after
    × GivesOut slots popped.batch.done was items
    × TellsPopped told popped
PoppingMany bound was items before told after = ⊥

-- what a batch of pops has put into the buffer from its slots
abbrev pub GivesOutTried : List Item → Result (Popped Item) Undone → List PlainItem → List PlainItem → Type 0
GivesOutTried slots (Err why) was items = items ≡ was
GivesOutTried slots (Ok popped) was items = GivesOut slots popped.batch.done was items

-- a batch that the member carries out itself: what it has done where it found the lock free, with what is told of it, and whether
-- a wake is owed
pub record BatchAnswers {Told : Type 0} (Done : Option Joined → Told → Option Joined → Type 0) (wake : Told → ℕ)
    (before : Option Contents) (code : ℕ) (told : Told) (after : Option Contents) : Type 0 where
  pub carried_out : code ≡ OK → Done (member_in before) told (member_in after)
  pub owes : code ≡ OK → SaysOwed (wake told) (member_in after)
  pub misses : code ≡ LOCK_HELD → Missing (member_in before) (member_in after)
  pub refused : code ≢ OK → code ≢ LOCK_HELD → after ≡ before
  pub codes : IsOneOf code (OK ∷ LOCK_HELD ∷ NO_HANDLE ∷ WAITS ∷ [])
  pub no_member : (code ≡ NO_HANDLE) ↔ (member_in before ≡ None)
  pub waits : (code ≡ WAITS) ↔ MatchOption (member_in before) ⊥ (λ m. is_idle m.pen.standing ≡ false)
  pub owner : owner_in after ≡ owner_in before

-- of pushes of these items
abbrev pub PushManyAnswers : List PlainItem → Option Contents → ℕ → PlainBatch → Option Contents → Type 0
PushManyAnswers items = BatchAnswers (λ was told is. PushingMany items was told is) (λ told. told.owes_wake)

-- of pops up to this bound, by which the buffer, which had the first items, has the second
abbrev pub PopManyAnswers : ℕ → List PlainItem → List PlainItem → Option Contents → ℕ → PlainPopped → Option Contents → Type 0
PopManyAnswers bound from into = BatchAnswers (λ was told is. PoppingMany bound from into was told is) (λ told. told.batch.owes_wake)
