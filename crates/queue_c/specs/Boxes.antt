-- What a handle owns.
use Rattle.std.specs.Prelude.{Option, Some, None}
use base.Fml.{Fml, feq}
use denote.RattleType.{RattleType}
use denote.RawPtr.{Ptr, null_ptr}
use mir.Syntax.{Ty}
use Rattle.std.specs.Box.Ownership.{box_owns}
use Rattle.std.specs.declared.alloc.Global.{Global}
use Rattle.std.specs.contracts.impls.GlobalAllocator.TheImpl.{ghosts}

-- the one value of a Global
abbrev pub heap : Global
heap = record { memory = record { seal = tt } }

-- the right to free a block of the C library's heap
abbrev pub chunk : Ty → Ptr → Fml
chunk = ghosts.dealloc_token heap

-- null, or the boxed value x at p
abbrev pub held_if : (R : RattleType) → Ptr → Option R.Denot → Fml
held_if R p None = feq Ptr p null_ptr
held_if R p (Some x) = box_owns chunk R p x
