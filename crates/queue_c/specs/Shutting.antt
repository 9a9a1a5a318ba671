-- What the call for C that shuts a queue makes of its member.
use Rattle.std.specs.Prelude.{ℕ, Option, Some}
use Rattle.pq_types.specs.Asked.{Answer}
use Rattle.flat_queue.specs.Members.{Joined}
use Rattle.flat_queue.specs.Shutting.{CarriesOutShut, TellsShut}
use Rattle.queue_pool.specs.Shared.{MayCall}
use Rattle.queue_c.specs.Plain.{Tells}
use Rattle.queue_c.specs.Asking.{OwnAnswers}
use Rattle.queue_c.specs.Calls.{words_of_item}
use Rattle.queue_c.specs.declared.contents.Contents.{Contents}
use Rattle.queue_c.specs.declared.plain.PlainAnswer.{PlainAnswer}

-- the idle member has found the lock free, and shut the queue, or been refused that, with the answer that is told
abbrev pub Shutting : Option Joined → PlainAnswer → Option Joined → Type 0
Shutting (Some before) told (Some after) =
    MayCall before × ((answer : Answer) × CarriesOutShut words_of_item before answer after × TellsShut answer after.pen.known × Tells told answer)
Shutting before told after = ⊥

-- a shut of the queue, with the answer that is told
abbrev pub ShutAnswers : Option Contents → ℕ → PlainAnswer → Option Contents → Type 0
ShutAnswers = OwnAnswers (λ was told is. Shutting was told is)
