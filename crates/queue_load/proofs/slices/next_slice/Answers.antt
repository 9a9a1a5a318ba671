use Rattle.std.proofs.Common.{◌≡◌, List, [], ◌∷◌, map, length, refl, ◌∙◌, ap, subst}
use Rattle.std.proofs.lemmas.List.{length-map}
use Rattle.std.specs.Prelude.{IfOk}
use Rattle.queue_load.specs.JournalWriter.{GoesOn}
use Rattle.queue_load.specs.Load.{known_before, known_then}
use Rattle.queue_load.specs.declared.worker.EndedWorker.{EndedWorker}
use Rattle.queue_load.specs.declared.worker.WorkerState.{WorkerState}
use Rattle.queue_load.specs.declared.worker.WorkerState.TheVariants.{Here}
use Rattle.queue_load.proofs.Slicing.{may_go_on}
use Rattle.queue_load.proofs.slices.next_slice.Goals as goal

-- who is to go on knows what it knew
same_known : {S P : Type 0} (worked : List (EndedWorker S P)) → known_before (map Here worked) ≡ known_then worked
same_known [] = refl
same_known (w ∷ ws) = refl

pub slice-requires-clause-states : goal.slice-requires-clause-states
slice-requires-clause-states g c κs within =
    let (made, come, most) = c.requires.come in
    may_go_on c.args.load.now.queue.now c.args.load.now.plan made c.args.until c.args.worked.items c.in-Ok.states.items come c.in-Ok.ensures most

pub slice-requires-clause-count : goal.slice-requires-clause-count
slice-requires-clause-count g c κs within = ap (λ (ss : List (WorkerState _ _)). length ss) c.in-Ok.ensures ∙ length-map c.args.worked.items Here ∙ c.requires.count

pub slice-requires-clause-until : goal.slice-requires-clause-until
slice-requires-clause-until g c κs within = c.requires.until

pub slice-requires-clause-end : goal.slice-requires-clause-end
slice-requires-clause-end g c κs within = c.requires.end

pub slice-requires-clause-few : goal.slice-requires-clause-few
slice-requires-clause-few g c κs within = c.requires.few

pub returns-clause-len : goal.returns-clause-len
returns-clause-len g c =
    let count : length c.in-Ok.states.items ≡ length c.args.worked.items = ap (λ (ss : List (WorkerState _ _)). length ss) c.in-Ok.ensures ∙ length-map c.args.worked.items Here in
    subst (λ n. IfOk c.slice.result (λ now. length now.0.items ≡ n)) count c.slice.ensures.len

pub returns-clause-come : goal.returns-clause-come
returns-clause-come g c = c.slice.ensures.come

pub returns-clause-writes : goal.returns-clause-writes
returns-clause-writes g c =
    let contents = g.W.Write.contents in
    let known : known_before c.in-Ok.states.items ≡ known_then c.args.worked.items = ap known_before c.in-Ok.ensures ∙ same_known c.args.worked.items in
    subst (λ ks. IfOk c.slice.result (λ now. GoesOn c.args.writing now.1 (contents c.args.writer.now) (contents c.slice.new.writer) ks (known_then now.0.items))) known c.slice.ensures.writes

pub returns-clause-err : goal.returns-clause-err
returns-clause-err g c = c.slice.ensures.err
