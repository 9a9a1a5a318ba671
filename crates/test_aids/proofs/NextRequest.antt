-- `Requests::refuses_next` at a call in a walk: what it is handed, a `&` to the count and a token
-- of its lifetime, and what its caller has back, a truth value and the token.
use Rattle.std.proofs.Common.{◌≡◌, ℕ, Bool, List, [], ◌∷◌, refl, ap}
use seplogic.Ra.Ura.{Ura}
use mir.Val.{Val, vbool, vptr}
use base.Logic.{SProp, ent, ex, sep, guard, id⊢}
use base.Fml.{Lft, Share, ftrue, fsep, flft}
use prog.Memory.{Memory}
use prog.Routine.{Routine}
use types.Logic.{Logic, sem}
use contract.Monad.{Fun}
use types.Kit.{‵, raw, ◌⊛◌, some, later, ◌$◌, ◌∵◌, !, qed, move, keep, use1, split, join, pick, fjoin, feq_i, feq_l, check, show}
use types.Kit.{await, updating, now as at_once, done}
use denote.Memory.{hidden_shr}
use denote.Builtin.{bool}
use denote.Steps.{nothing, only}
use denote.Triple.Statement.{Contract}
use denote.Triple.Spec.{triple_of}
use Rattle.test_aids.specs.declared.refusing.Requests.{Requests}
use Rattle.test_aids.specs.contracts.refusing.Requests as counts
use Rattle.test_aids.specs.contracts.refusing.Requests.refuses_next as callee

module _ {M : Type 1} {𝓤 : Ura M} (𝓛 : Logic 𝓤) (at_mem : Memory → SProp 𝓤) (run : Routine → Fun 𝓤) where
  abbrev pub RefusesNext : Contract 𝓤
  RefusesNext = triple_of 𝓛 callee.signature (callee.spec 𝓛 at_mem run)

  abbrev pub at_count : Lft → Share → ℕ × ℕ → Requests → RefusesNext.Ghost
  at_count κ q place count = (((κ, tt), (q, tt), tt, (record { ref_ptr = place; now = count }, tt), (vptr place.0 place.1 ∷ [], tt)), tt)

module _ {M : Type 1} {𝓤 : Ura M} (𝓛 : Logic 𝓤) (at_mem : Memory → SProp 𝓤) (run : Routine → Fun 𝓤) (κ : Lft) (q : Share) (place : ℕ × ℕ)
    (count : Requests) where
  open 𝓛 use {H, A}

  abbrev pub seen_count : SProp 𝓤
  seen_count = sem 𝓛 (hidden_shr counts.the_row κ count place.0 place.1)

  pub handed : ent 𝓤 (sep 𝓤 seen_count (A.lft κ q)) ((RefusesNext 𝓛 at_mem run).pre (at_count 𝓛 at_mem run κ q place count))
  handed =
      qed 𝓛 (‵ (hidden_shr counts.the_row κ count place.0 place.1) ∷ ‵ (flft κ q) ∷ []) ∵
      feq_i ! (List Val) (vptr place.0 place.1 ∷ []) (vptr place.0 place.1 ∷ []) refl $ fjoin ! $
      nothing ! $ move ! (1 ∷ []) $ fjoin ! $ nothing ! $ move ! (2 ∷ []) $ join ! $ join ! $
      nothing ! $ move ! (1 ∷ []) $ done !

  abbrev pub Told : Val → SProp 𝓤
  Told v = ex 𝓤 (λ (refused : Bool). guard 𝓤 (v ≡ vbool refused) (A.lft κ q))

  pub handed_back : (v : Val) → ent 𝓤 ((RefusesNext 𝓛 at_mem run).post (at_count 𝓛 at_mem run κ q place count) v) (H.⇛ (Told v))
  handed_back v =
      qed 𝓛 (raw ((RefusesNext 𝓛 at_mem run).post (at_count 𝓛 at_mem run κ q place count) v) ∷ []) ∵ updating ! $
      use1 𝓛 (later (some (λ (refused : Bool). ((‵ (flft κ q) ⊛ ‵ ftrue) ⊛ ‵ (bool.own_val refused (v ∷ []))) ⊛ some
      (λ (last : Unit {0} × Unit {0}). ‵ (fsep ftrue ftrue) ⊛ ‵ ftrue)))) (id⊢ 𝓤 _) $
      await ! tt $ pick ! (λ refused. split ! $ split ! $ move ! (1 ∷ []) $ feq_l ! (λ is_refused. split ! $
      at_once ! $ show ! (λ (y : Bool). guard 𝓤 (v ≡ vbool y) (A.lft κ q)) refused $ check ! (ap only is_refused) $ keep ! (0 ∷ []) $ done !))
