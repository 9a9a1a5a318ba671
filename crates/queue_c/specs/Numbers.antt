-- Which queue a member is of, by its number.
use Rattle.std.specs.Prelude.{◌≡◌, ◌≢◌, ℕ, Option, Some}
use Rattle.queue_c.specs.declared.contents.Contents.{Contents}
use Rattle.queue_c.specs.declared.contents.Contents.TheVariants.{Queue, Member}

-- the number names one queue: a member that carries it is of this queue
abbrev pub NamesOne : Option Contents → ℕ → Option Contents → Type 0
NamesOne (Some (Queue opened)) number (Some (Member member owner)) = owner ≡ number → member.queue ≡ opened.queue
NamesOne queue number member = Unit {0}

-- there are a queue of this number, and a member that carries another
abbrev pub CarriesAnother : Option Contents → ℕ → Option Contents → Type 0
CarriesAnother (Some (Queue opened)) number (Some (Member member owner)) = owner ≢ number
CarriesAnother queue number member = ⊥
