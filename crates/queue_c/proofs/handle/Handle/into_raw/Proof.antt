-- `into_raw` gives the pointer and what is owned at it.
use Rattle.std.proofs.Common.{◌≡◌, List, [], ◌∷◌, ◌++◌, refl, sym, ap, ◌∙◌, subst}
use mir.Val.{Val, vptr}
use mir.Raw.{raw as bare}
use base.Logic.{SProp, ent, emp, id⊢, never, fst∗}
use base.Fml.{ftrue, fsep}
use prog.Wp.{WpFn}
use types.Logic.{sem}
use types.Kit.{‵, raw, ◌⊛◌, ◌$◌, ◌∵◌, !, qed, by, move, keep, drop, split, fsplit, fsplit3, fjoin, suffices, use0, rewrite}
use types.Run.{stop, fld, of_opd, no_more, and_then, returns, enter}
use types.ByLocal.{alloc_all, pass_all, free_all, look_at, get, get_in, sets}
use types.Part.{agg, sub, whole}
use contract.Monad.{fact, fact_i}
use contract.Running.{tables}
use denote.Exit.{yes}
use denote.RattleType.{RattleType}
use denote.Laws.{Is, shows}
use denote.Memory.{lone}
use denote.Signature.{plain}
use denote.RawPtr.{Ptr, block_ptr, null_ptr, in_a_block}
use denote.Steps.{nothing, heard, peeks}
use denote.Triple.Walked.{Stays, stay_dropped, walk_of, Goes-dropped}
use Rattle.core.proofs.alloc.Calls.{Al, handle_tells}
use mir.Syntax.{impl, tnil, dnil}
use Rattle.queue_c.specs.Boxes.{chunk}
use Rattle.std.specs.Prelude.{Option, Some, IsSome}
use Rattle.std.specs.Box.Ownership.{box_owns}
use Rattle.std.specs.contracts.alloc.Global as heap
use Rattle.std.proofs.alloc.Global.TheLaws as heap_laws
use Rattle.std.specs.contracts.impls.GlobalAllocator.TheImpl.{ghosts}
use Rattle.std.proofs.raw_atomic.Walks.{proved_at, leaves}
use Rattle.queue_c.specs.Boxes.{held_if}
use Rattle.queue_c.proofs.RawBoxes.{both, RawBox, raw_good, raw_in}
use Rattle.queue_c.proofs.HandleFields.{word, Data, told, is_some}
use Rattle.queue_c.specs.contracts.contents.Contents as inner
use Rattle.queue_c.specs.contracts.handle.Handle as held
use Rattle.queue_c.specs.contracts.handle.Handle.into_raw.{ended, clauses}
use Rattle.queue_c.specs.contracts.handle.Handle.into_raw.Key.{name as #self}
use Rattle.queue_c.proofs.handle.Handle.into_raw.Statement.{statement}
use Rattle.queue_c.proofs.handle.Handle.into_raw.Code as code

pub into_raw_spec : {M : Type 1} → statement M
into_raw_spec 𝓤 𝓛 𝓜 𝓡 wired =
    let H = 𝓛.H in let 𝓣 = tables 𝓤 H 𝓜 𝓡 𝓡.env in let fn = code.function in let c = clauses 𝓛 𝓜.mem 𝓡.returns in
    let R : RattleType = inner.the_row in let Z : RattleType = heap.the_row in let LZ = heap_laws.the_row_laws in let Lr : RattleType = RawBox R Z LZ ghosts in let Row : RattleType = held.the_row in
    let al : Al = record { row = Z; laws = LZ; g = ghosts; d = impl [] tnil dnil; drops = impl [] tnil dnil } in
    let hs : Stays ended.signature.params ended.kept = (stay_dropped (plain (λ _. Row)) yes, (stay_dropped (plain (λ _. Z)) yes, tt)) in
    proved_at 𝓛 ended hs c 𝓜 𝓡 (Goes-dropped 𝓛 0 (plain (λ _. Row)) yes (λ κs x f. refl), (Goes-dropped 𝓛 0 (plain (λ _. Z)) yes (λ κs x f. refl), tt)) #self fn (code.unfolded 𝓤 H 𝓜 𝓡 wired) (λ z are.
    let κs = z.0.0 in let v = z.0.3.0 in let a = z.0.3.1.0 in let Post : Val → SProp 𝓤 = (walk_of 𝓛 ended hs c).post z in let Run : List Val → SProp 𝓤 = λ ws. WpFn 𝓤 H 𝓣.C 𝓣.Λ fn ws Post in
    qed 𝓛 ((‵ ftrue ⊛ ‵ (fsep (Row.own_val v z.0.4.0) (fsep (Z.own_val a z.0.4.1.0) ftrue))) ∷ raw (fact 𝓤 (IsSome v.value)) ∷ []) ∵ move ! (1 ∷ []) $ heard ! (IsSome v.value) (λ full.
    let x = (is_some v.value full).0 in let ex : v.value ≡ Some x = (is_some v.value full).1 in
    split ! $ keep ! (1 ∷ []) $ fsplit3 ! $ keep ! (0 ∷ 1 ∷ []) $ fsplit ! $ peeks ! Data (Is Data) (shows 𝓛 Data) (v.at, tt) z.0.4.0 (λ so. drop ! $
    rewrite ! 0 (λ (k : Option R.Denot). ‵ (held_if R v.at k)) ex refl $
    in_a_block ! v.at (λ p. box_owns chunk R p x) (fst∗ 𝓤 (never 𝓤) (sem 𝓛 (chunk (bare (lone R.mir)) null_ptr))) (λ b o e. move ! (1 ∷ []) $
    handle_tells al ! a z.0.4.1.0 (λ h eh fits. move ! (1 ∷ 0 ∷ []) $
    let p : Ptr = block_ptr b o in let typed = raw_good R Z LZ ghosts b o h fits in let d : Lr.Denot = record { at = p; alloc = a; value = x } in
    let us : List Val = word p ∷ h ∷ [] in let ew : z.0.4.0 ≡ word p ∷ [] = told v.at z.0.4.0 so ∙ ap (λ (q : Ptr). word q ∷ []) e in
    suffices ! (Run us) (subst (λ (ws : List Val). ent 𝓤 (Run us) (Run ws)) (sym (λ i. ew i ++ (eh i ++ []))) (id⊢ 𝓤 (Run us))) $
    enter ! 𝓣.C 𝓣.Λ fn us Post $ alloc_all ! (λ l. pass_all ! refl ((tt, (tt, tt)), (fits, tt)) $
    sets ! (of_opd ! (get_in ! (fld ! refl (stop !)) (sub ! 0 refl (whole !)))) refl (tt, tt) $
    sets ! (of_opd ! (get ! refl)) refl (tt, tt) $
    sets ! (agg ! (and_then ! (get ! refl) (and_then ! (get ! refl) (no_more !)))) refl typed $
    raw_in R Z LZ ghosts ! b o h a x $
    use0 𝓛 (raw (fact 𝓤 (v.value ≡ Some d.value))) (fact_i 𝓤 (v.value ≡ Some d.value) (emp 𝓤) ex) $ nothing ! $ nothing ! $ fjoin ! $ nothing ! $ fjoin ! $ nothing ! $
    returns ! (look_at ! 0 refl) $ free_all ! refl $ keep ! (0 ∷ 1 ∷ 3 ∷ 2 ∷ []) $ by ! (leaves 𝓛 ended hs c z (both (vptr b o) h) d (tt, (tt, tt)) (tt, (tt, tt)))))))))
