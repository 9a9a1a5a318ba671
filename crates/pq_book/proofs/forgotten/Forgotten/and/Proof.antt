-- `and` makes the struct without bytes, with the list that its clause names.
use mathlib.Core.Path.{refl}
use mathlib.Core.List.{[], ◌∷◌, ◌++◌}
use seplogic.Ra.Ura.{Ura}
use mir.Syntax.{Fn, Args as Inside, Dict, a_type, dcons, dnil, named}
use mir.MapTy.{inst_fn}
use mir.Val.{Val, vptr, vstruct, vnil}
use base.Logic.{SProp, ent, sep, emp, via, fst∗}
use base.Fml.{Fml}
use prog.Memory.{Memory}
use prog.Routine.{Routine}
use prog.Wp.{Calls, Loops, WpFn, Tables}
use types.Logic.{Logic}
use contract.Lifetimes.{AllOutlive, Lfts, Shares}
use contract.BorrowLft.{◌⊑◌}
use contract.Monad.{Fun, fact}
use contract.Running.{tables, tables_of}
use sound.WpLaws.{WpFn-mono}
use types.Kit.{‵, raw, ◌$◌, ◌∵◌, !, qed, move, suffices, done}
use types.Run.{no_more, returns, enter}
use types.Part.{agg}
use types.ByLocal.{alloc_all, pass_all, free_all, look_at, sets}
use denote.Exit.{yes}
use denote.Param.{bounded, copied}
use denote.RattleType.{RattleType, owns}
use denote.Ref.{shr_vals, shr_Tells}
use denote.Shadow.{pure_i}
use denote.Signature.{plain, types_at}
use denote.Triple.Clauses.{Clauses, Ended}
use denote.Triple.Entry.{on_entry, alive, Args}
use denote.Triple.Spec.{Meets, triple_of}
use denote.Triple.Table.{entered}
use denote.Triple.Walked.{says, stay_none_ref, Stays, walk_of, Walks, ends_at, walked, Goes-none_ref, walk_Meets}
use Rattle.pq_book.specs.contracts.forgotten.Forgotten.and.Key.{name as key}
use Rattle.pq_book.specs.contracts.forgotten.Forgotten.and as f
use Rattle.pq_book.proofs.forgotten.Forgotten.and.Statement as stated
use Rattle.pq_book.proofs.forgotten.Forgotten.and.Code as code
use Rattle.pq_book.specs.contracts.forgotten.Forgotten as forgotten
use Rattle.pq_types.specs.contracts.journal.Line as line
use Rattle.pq_types.specs.declared.part.Part as part
use Rattle.std.specs.declared.clone.Clone as clone
use Rattle.std.specs.declared.cmp.Eq as total
use Rattle.std.specs.declared.cmp.PartialEq as equal

-- parts of this type, with the members of its bounds
module _ (P : RattleType) (pg : part.Ghosts P.Denot) (pd : Dict) (cg : clone.Ghosts P.Denot) (cd : Dict) (tg : total.Ghosts P.Denot) (td : Dict) (eg : equal.Ghosts P.Denot) (ed : Dict) where
  abbrev inside : Inside
  inside = bounded (a_type ∷ []) (P, tt) (dcons pd (dcons cd (dcons td (dcons ed dnil))))

  abbrev function : Fn
  function = inst_fn inside code.function

  abbrev ended : Ended
  ended = f.ended P pg pd cg cd tg td eg ed

  abbrev asked : RattleType
  asked = line.the_row (copied 0 P) pg eg

  abbrev stayed : Stays ended.signature.params ended.kept
  stayed = (stay_none_ref (0 ∷ []) tt (plain (λ _. forgotten.the_row)) yes, (stay_none_ref (1 ∷ []) tt (plain (λ _. asked)) yes, tt))

  module _ {M : Type 1} {𝓤 : Ura M} (𝓛 : Logic 𝓤) (mem : Memory → SProp 𝓤) (run : Routine → Fun 𝓤) where
    abbrev held : Clauses 𝓤 ended
    held = f.clauses P pg pd cg cd tg td eg ed 𝓛 mem run

    module _ (C : Calls 𝓤 𝓛.H) (Λ : Loops 𝓤 𝓛.H) where
      open 𝓛 use {H}

      module _ (κs : Lfts 3) (qs : Shares 3) (bounds : AllOutlive 3 ended.signature.outlives κs) (a : Args ended.signature κs) where
        abbrev before : Val
        before = vptr a.0.ref_ptr.0 a.0.ref_ptr.1

        abbrev added : Val
        added = vptr a.1.0.ref_ptr.0 a.1.0.ref_ptr.1

        abbrev bound : (walk_of 𝓛 ended stayed held).Ghost
        bound = ((κs, qs, bounds, a, (before ∷ [], (added ∷ [], tt))), tt)

        abbrev passed : Fml
        passed = owns (types_at ended.signature.params κs) a (before ∷ [], (added ∷ [], tt))

        walk : ent 𝓤 (on_entry 𝓛 ended.signature κs qs a (before ∷ [], (added ∷ [], tt))) (WpFn 𝓤 H C Λ function (before ∷ added ∷ []) ((walk_of 𝓛 ended stayed held).post bound))
        walk =
            qed 𝓛 (raw (alive 𝓛 ended.signature κs qs) ∷ ‵ passed ∷ []) ∵ enter ! C Λ function (before ∷ added ∷ []) _ $
            alloc_all ! (λ l. pass_all ! refl ((tt, tt), ((tt, tt), tt)) $ sets ! (agg ! (no_more !)) refl (tt, tt) $
            returns ! (look_at ! 0 refl) $ free_all ! refl $
            suffices ! _ (ends_at 𝓛 ended stayed held bound (vstruct vnil) (record { lines = a.0.now.lines ++ a.1.0.now ∷ [] }) (tt, (tt, tt)) (tt, (tt, tt))) $
            says ! refl $ pure_i ! (forgotten.the_row.own_val (record { lines = a.0.now.lines ++ a.1.0.now ∷ [] }) (vstruct vnil ∷ [])) ((λ vss. (tt, tt)), tt) ((tt, (refl, tt)), tt) $
            move ! (1 ∷ 2 ∷ 0 ∷ []) $ done !)

      walks : Walks 𝓛 ended stayed (WpFn 𝓤 H C Λ function) held
      walks =
          walked 𝓛 ended stayed held (WpFn 𝓤 H C Λ function) (λ κs. (shr_vals, (shr_vals, tt)))
          (λ κs. (shr_Tells (named 0) κs.0 forgotten.the_row, (shr_Tells (named 1) κs.1.0 asked, tt)))
          (λ κs qs bounds a g are. via 𝓤 _ (fst∗ 𝓤 _ (sep 𝓤 (fact 𝓤 (κs.1.1.0 ⊑ P.lives)) (emp 𝓤))) (walk κs qs bounds a))

    meets : (𝓣 : Tables 𝓤 𝓛.H) → Meets 𝓛 ended.signature (WpFn 𝓤 𝓛.H 𝓣.C 𝓣.Λ function) (f.spec P pg pd cg cd tg td eg ed 𝓛 mem run)
    meets 𝓣 =
        walk_Meets 𝓛 ended stayed (Goes-none_ref 𝓛 3 (0 ∷ []) tt (plain (λ _. forgotten.the_row)) yes, (Goes-none_ref 𝓛 3 (1 ∷ []) tt (plain (λ _. asked)) yes, tt)) held (WpFn 𝓤 𝓛.H 𝓣.C 𝓣.Λ function)
        (WpFn-mono 𝓤 𝓛.H 𝓛.laws 𝓣 function) (walks 𝓣.C 𝓣.Λ)

pub and_spec : {M : Type 1} → stated.statement M
unfolding tables_of
and_spec 𝓤 𝓛 𝓜 𝓡 wired P L copies pg pd cg cd tg td eg ed part_met clone_met total_met equal_met =
    let 𝓣 : Tables 𝓤 𝓛.H = tables_of 𝓤 𝓛.H 𝓜 (tables 𝓤 𝓛.H 𝓜 𝓡 𝓡.env) in
    entered 𝓤 𝓛.H (triple_of 𝓛 (ended P pg pd cg cd tg td eg ed).signature (f.spec P pg pd cg cd tg td eg ed 𝓛 𝓜.mem 𝓡.returns)) 𝓣.C 𝓣.Λ
    (key (inside P pg pd cg cd tg td eg ed)) (function P pg pd cg cd tg td eg ed)
    (code.unfolded 𝓤 𝓛.H 𝓜 𝓡 wired (P, tt) pd cd td ed)
    (meets P pg pd cg cd tg td eg ed 𝓛 𝓜.mem 𝓡.returns 𝓣)
