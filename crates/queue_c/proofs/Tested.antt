-- What is owned at a handle's pointer says whether that is null. Assumes `Logic`.
use Rattle.std.proofs.Common.{◌≡◌, refl, sym, subst, lit<}
use mathlib.Core.Bool.{Bool, true, false}
use seplogic.Ra.Ura.{Ura}
use mir.Raw.{raw as bare}
use mir.Syntax.{ptr_eq}
use mir.Val.{vbool, vnull, op2_val}
use base.Logic.{ent, via, id⊢, never, never_e, fst∗, snd∗, guard, guard_i}
use types.Logic.{Logic, sem}
use contract.Monad.{fact_use}
use denote.Memory.{lone}
use denote.RawPtr.{Ptr, block_ptr, null_ptr, ptr_val, lies_at, Testable}
use base.Fraction.{full_share}
use Rattle.std.specs.Bool.{MatchBool}
use Rattle.std.specs.Prelude.{Option, Some, None, IsSome}
use Rattle.std.proofs.GlobalToken.{dealloc_token-Testable}
use Rattle.queue_c.specs.Boxes.{heap, chunk, held_if}
use Rattle.queue_c.specs.contracts.contents.Contents.{the_row as R}

-- the pointer may be compared with null, and what comes of it tells whether the handle holds a value
pub record Tested (p : Ptr) (k : Option R.Denot) : Type 0 where
  pub answer : Bool
  pub may : Testable p
  pub is : op2_val ptr_eq (ptr_val p) vnull ≡ vbool answer
  pub tells : MatchBool answer (k ≡ None) (IsSome k)

null_tested : (p : Ptr) → p ≡ null_ptr → Tested p None
null_tested p e = subst (λ (q : Ptr). Tested q None) (sym e) (record { answer = true; may = lit< tt; is = refl; tells = refl })

pub tested : {M : Type 1} {𝓤 : Ura M} (𝓛 : Logic 𝓤) (p : Ptr) (k : Option R.Denot) → ent 𝓤 (sem 𝓛 (held_if R p k)) (guard 𝓤 (Tested p k) (sem 𝓛 (held_if R p k)))
tested {M} {𝓤} 𝓛 p None = fact_use 𝓤 (p ≡ null_ptr) (id⊢ 𝓤 _) (λ e. guard_i 𝓤 (Tested p None) (sem 𝓛 (held_if R p None)) (null_tested p e))
tested {M} {𝓤} 𝓛 null_ptr (Some x) = via 𝓤 (never 𝓤) (fst∗ 𝓤 (never 𝓤) (sem 𝓛 (chunk (bare (lone R.mir)) null_ptr))) (never_e 𝓤 _)
tested {M} {𝓤} 𝓛 (block_ptr b o) (Some x) =
    let p = block_ptr b o in let k = Some x in
    fact_use 𝓤 (Testable p) (via 𝓤 _ (snd∗ 𝓤 (sem 𝓛 (lies_at R full_share p x)) (sem 𝓛 (chunk (bare (lone R.mir)) p))) (dealloc_token-Testable 𝓛 heap (bare (lone R.mir)) p))
    (λ may. guard_i 𝓤 (Tested p k) (sem 𝓛 (held_if R p k)) (record { answer = false; may = may; is = refl; tells = refl }))
