-- What the call for C makes of its member that takes the first item out up to a priority, or looks at it.
use Rattle.std.specs.Prelude.{ℕ, ◌==◌, if◌then◌else◌, Option, Some}
use Rattle.pq_types.specs.Asked.{Answer}
use Rattle.pq_types.specs.declared.answer.Reply.TheVariants.{Got, Empty, Least as LeastIs}
use Rattle.pq_types.specs.declared.answer.Answer.TheVariants.{Entered}
use Rattle.pq_types.specs.declared.answer.Answer.TheVariants as answer
use Rattle.pq_types.specs.declared.answer.Refusal.TheVariants.{Shut}
use Rattle.flat_queue.specs.Members.{Joined}
use Rattle.flat_queue.specs.Looking.{Looked, LooksFirstBy}
use Rattle.flat_queue.specs.declared.looking.Wanted.{Wanted}
use Rattle.flat_queue.specs.declared.looking.Wanted.TheVariants as wanted
use Rattle.flat_queue.specs.declared.looking.Looked.TheVariants as looked
use Rattle.queue_pool.specs.Shared.{MayCall}
use Rattle.queue_c.specs.Plain.{Tells}
use Rattle.queue_c.specs.Calls.{words_of_item}
use Rattle.queue_c.specs.declared.plain.PlainAnswer.{PlainAnswer}

-- what a call wants, whose first number says whether it takes an item: those up to this priority, or none
abbrev pub wanted_of : ℕ → ℕ → Wanted
wanted_of takes priority = if takes == 0 then wanted.Nothing else wanted.UpTo priority

-- a look as an answer: its pop's; or on line 0, as it has no line, that this item is the first, which stays, or that none is; or,
-- where none is and the queue is shut, that it is
abbrev pub told_as : Looked → Answer
told_as (looked.Taken number x) = Entered number (Got x)
told_as (looked.Stays x) = Entered 0 (LeastIs x)
told_as looked.Nothing = Entered 0 Empty
told_as looked.Over = answer.Refused Shut
told_as looked.BookFull = answer.BookFull
told_as (looked.Refused why) = answer.Refused why

-- The idle member has found the lock free, and looked at the first item, which it took out where it wants that, as is told.
abbrev pub PoppingOrLooking : Option Joined → Wanted → PlainAnswer → Option Joined → Type 0
PoppingOrLooking (Some before) wants told (Some after) =
    MayCall before × ((seen : Looked) × LooksFirstBy words_of_item wants before seen after × Tells told (told_as seen))
PoppingOrLooking before wants told after = ⊥
