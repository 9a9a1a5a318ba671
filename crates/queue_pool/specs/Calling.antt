-- What a step of a call that has posted makes of its member.
use Rattle.std.specs.Prelude.{◌≡◌, ℕ, true, Result, Ok, Err}
use Rattle.pq_types.specs.Asked.{Answer}
use Rattle.announce_board.specs.Tokens.{is_idle}
use Rattle.flat_queue.specs.Members.{Joined}
use Rattle.flat_queue.specs.Turns.{FindsLockHeld, LeadsBy, LooksInVainBy}
use Rattle.flat_queue.specs.CallSteps.{LooksUpBy}
use Rattle.queue_pool.specs.declared.shared.Undone.{Undone}
use Rattle.queue_pool.specs.declared.shared.Undone.TheVariants.{Idle, LockHeld, Led}

-- The member looked in vain for its answer, and then made a round of its own. Here, and in all that follows, items have so many words.
abbrev pub LeadsBehindLookBy : ℕ → Joined → Joined → Type 0
LeadsBehindLookBy words before after = (looked : Joined) × LooksInVainBy words before looked × LeadsBy words looked after

-- The member looked in vain for its answer, and then found the lock held.
abbrev pub MissesBehindLookBy : ℕ → Joined → Joined → Type 0
MissesBehindLookBy words before after = (looked : Joined) × LooksInVainBy words before looked × FindsLockHeld looked after

-- No request is out, and nothing was done; or the waiting member looked, and was told this answer, which is none for want of memory
-- where the stores have room for all lines; or it looked in vain, and then made a round of its own, or found the lock held.
abbrev pub StepsAnswerBy : ℕ → (has_room : Type 0) → Joined → Result Answer Undone → Joined → Type 0
StepsAnswerBy words has_room before (Ok told) after = LooksUpBy words has_room before told after
StepsAnswerBy words has_room before (Err Idle) after = (is_idle before.pen.standing ≡ true) × (after ≡ before)
StepsAnswerBy words has_room before (Err Led) after = LeadsBehindLookBy words before after
StepsAnswerBy words has_room before (Err LockHeld) after = MissesBehindLookBy words before after
StepsAnswerBy words has_room before (Err why) after = ⊥
