-- `is_empty` compares the pointer with null, which what is owned at it allows.
use Rattle.std.proofs.Common.{◌≡◌, ℕ, List, [], ◌∷◌, refl, sym}
use mir.Syntax.{named}
use mir.Val.{Val, vptr, vbool}
use base.Fraction.{full_share}
use base.Logic.{SProp, emp}
use base.Fml.{Lft, ftrue, flft}
use types.Kit.{given, learn, use1, ‵, raw, ◌⊛◌, ◌$◌, ◌∵◌, !, qed, by, move, keep, split, join, fsplit, fsplit3, fjoin, fjoin3, use0, rewrite, feq_i}
use types.Run.{stop, fld, load, of_opd, lit, bin, returns, enter}
use types.ByLocal.{alloc_all, pass_all, free_all, look_at, get, through, is, sets}
use types.Part.{sub, whole, look_in}
use contract.Monad.{fact, fact_i}
use contract.Running.{tables}
use denote.RattleType.{RattleType, owns}
use denote.Laws.{Is, shows}
use denote.Memory.{cell_at}
use denote.Ref.{mut_vals, mut_Tells}
use denote.RawPtr.{Ptr, tests_null}
use denote.Signature.{types_at, plain}
use denote.Steps.{nothing, peeks, opens, closes}
use denote.Triple.Walked.{Stays, stay_ref, walk_of, Goes-ref}
use Rattle.core.proofs.atomic.Steps.{Ptr-Good}
use Rattle.std.specs.Bool.{MatchBool}
use Rattle.std.specs.Prelude.{Bool, None, IsSome}
use Rattle.queue_c.specs.Boxes.{held_if}
use Rattle.queue_c.specs.contracts.contents.Contents as inner
use Rattle.queue_c.proofs.Tested.{Tested, tested}
use Rattle.std.proofs.raw_atomic.Walks.{proved, leaves}
use Rattle.queue_c.proofs.HandleFields.{word, Data, told}
use Rattle.queue_c.specs.contracts.handle.Handle as held
use Rattle.queue_c.specs.contracts.handle.Handle.is_empty.{ended, clauses}
use Rattle.queue_c.specs.contracts.handle.Handle.is_empty.Key.{name as #self}
use Rattle.queue_c.proofs.handle.Handle.is_empty.Statement.{statement}
use Rattle.queue_c.proofs.handle.Handle.is_empty.Code as code

pub is_empty_spec : {M : Type 1} → statement M
is_empty_spec 𝓤 𝓛 𝓜 𝓡 wired =
    let H = 𝓛.H in let 𝓣 = tables 𝓤 H 𝓜 𝓡 𝓡.env in let fn = code.function in let c = clauses 𝓛 𝓜.mem 𝓡.returns in let Row : RattleType = held.the_row in
    let self = plain (λ _. Row) in let hs : Stays ended.signature.params ended.kept = (stay_ref (0 ∷ []) tt self, tt) in
    proved 𝓛 ended hs c 𝓜 𝓡 (Goes-ref 𝓛 1 0 tt self, tt) #self fn (code.unfolded 𝓤 H 𝓜 𝓡 wired)
    (λ κs. (mut_vals, tt)) (λ κs. (mut_Tells (named 0) κs.0 Row, tt)) (λ κs qs bounds a gh are.
    let b : ℕ = a.0.ref_ptr.0 in let o : ℕ = a.0.ref_ptr.1 in let κ : Lft = κs.0 in let d : Row.Denot = a.0.now in let p : Ptr = d.at in
    let y : (walk_of 𝓛 ended hs c).Ghost = ((κs, qs, bounds, a, (vptr b o ∷ [], tt)), gh) in let Post : Val → SProp 𝓤 = (walk_of 𝓛 ended hs c).post y in
    qed 𝓛 (((‵ (flft κ qs.0) ⊛ ‵ ftrue) ⊛ ‵ (owns (types_at ended.signature.params κs) a y.0.4)) ∷ raw ((c κs a).requires gh) ∷ []) ∵
    keep ! (0 ∷ []) $ split ! $ split ! $ move ! (2 ∷ []) $ fsplit ! $ fsplit3 ! $ keep ! (1 ∷ 2 ∷ 4 ∷ 5 ∷ []) $
    enter ! 𝓣.C 𝓣.Λ fn (vptr b o ∷ []) Post $ alloc_all ! (λ l. pass_all ! refl ((tt, tt), tt) $
    opens ! tt Row b o (λ vs. move ! (1 ∷ []) $ fsplit ! $ peeks ! Data (Is Data) (shows 𝓛 Data) (p, tt) vs (λ so. let ev : vs ≡ word p ∷ [] = told p vs so in
    -- [the field; what is owned; the cell; the open borrow, in three entries; no tokens]
    move ! (1 ∷ []) $ use1 𝓛 (given (Tested p d.value) (‵ (held_if inner.the_row p d.value))) (tested 𝓛 p d.value) $ learn ! (λ t. let r : Bool = t.answer in
    let Told : Type 0 = MatchBool r (d.value ≡ None) (IsSome d.value) in
    move ! (1 ∷ 0 ∷ []) $ fjoin ! $
    rewrite ! 1 (λ (ws : List Val). ‵ (cell_at full_share Row.mir ws b o)) ev refl $
    sets ! (of_opd ! (load ! (through ! refl (fld ! refl (stop !))) (look_in ! 1 (sub ! 0 refl (whole !))))) refl (Ptr-Good p) $
    sets ! (is ! (bin ! (get ! refl) (lit ! tt) (tests_null p t.may)) t.is) refl (tt, tt) $
    rewrite ! 1 (λ (ws : List Val). ‵ (cell_at full_share Row.mir ws b o)) (sym ev) refl $ move ! (1 ∷ []) $ closes ! tt Row d vs b o $
    -- [two parts of self; the token; no tokens]
    feq_i ! (List Val) (vptr b o ∷ []) (vptr b o ∷ []) refl $ fjoin3 ! $ nothing ! $ move ! (1 ∷ 0 ∷ []) $ fjoin ! $ move ! (1 ∷ 2 ∷ []) $ join ! $
    feq_i ! (List Val) (vbool r ∷ []) (vbool r ∷ []) refl $ use0 𝓛 (raw (fact 𝓤 (d.value ≡ d.value))) (fact_i 𝓤 (d.value ≡ d.value) (emp 𝓤) refl) $ use0 𝓛 (raw (fact 𝓤 Told)) (fact_i 𝓤 Told (emp 𝓤) t.tells) $ join ! $
    returns ! (look_at ! 0 refl) $ free_all ! refl $ keep ! (2 ∷ 3 ∷ 1 ∷ 0 ∷ []) $ by ! (leaves 𝓛 ended hs c y (vbool r) r (d, tt) (tt, tt)))))))
