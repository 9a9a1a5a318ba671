-- What a joining makes of two handles.
use Rattle.std.specs.Prelude.{◌≡◌, ℕ, Option, Some}
use Rattle.flat_queue.specs.Members.{Joined}
use Rattle.queue_c.specs.Handles.{queue_in}
use Rattle.queue_c.specs.Calls.{Joining}
use Rattle.queue_c.specs.declared.contents.Contents.{Contents}
use Rattle.queue_c.specs.declared.contents.Contents.TheVariants.{Member}

-- an idle member has come out of the queue that is held, and its handle holds it, with this number
abbrev pub Joins : Option Contents → ℕ → Option Contents → Option Contents → Type 0
Joins before number after member =
    (m : Joined) × (member ≡ Some (Member m number)) × Joining (queue_in before) (queue_in after) (Some m)
