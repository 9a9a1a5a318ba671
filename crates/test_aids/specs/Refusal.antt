-- Which requests for memory an allocator refuses. Requests are numbered from 1, as they come.
use Rattle.std.specs.Prelude.{ℕ, ◌≡◌, ◌≤◌}
use Rattle.test_aids.specs.declared.refusing.Refused.{Refused}
use Rattle.test_aids.specs.declared.refusing.Refused.TheVariants.{Nothing, Nth, From}
use Rattle.test_aids.specs.declared.refusing.Refusing.{Refusing}

-- the request of this number is one of these
abbrev pub IsRefusedBy : Refused → ℕ → Type 0
IsRefusedBy Nothing number = ⊥
IsRefusedBy (Nth refused) number = number ≡ refused
IsRefusedBy (From first) number = first ≤ number

-- the allocator refuses the request of this number
abbrev pub Refuses : {Inner : Type 0} → Refusing Inner → ℕ → Type 0
Refuses heap number = IsRefusedBy heap.requests.refused number

-- it passes requests on to this allocator
abbrev pub IsOn : {Inner : Type 0} → Refusing Inner → Inner → Type 0
IsOn heap inner = heap.inner ≡ inner
