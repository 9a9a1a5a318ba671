-- What a copy of lines makes of two handles.
use Rattle.std.specs.Prelude.{◌≡◌, ℕ, Option, Some}
use Rattle.queue_c.specs.Handles.{member_in}
use Rattle.queue_c.specs.Calls.{Copying}
use Rattle.queue_c.specs.Values.{Told}
use Rattle.queue_c.specs.declared.contents.Contents.{Contents}
use Rattle.queue_c.specs.declared.contents.Contents.TheVariants.{Journal}

-- the member that is held has led and released, and a handle holds the lines of the journal behind so many
abbrev pub Copies : Option Contents → ℕ → Option Contents → Option Contents → Type 0
Copies before archived journal after =
    (t : Told) × (journal ≡ Some (Journal t)) × Copying (member_in before) archived (Some t) (member_in after)
