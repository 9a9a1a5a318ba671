use Rattle.std.proofs.Common.{◌≡◌, [], ◌∷◌, length, subst, sym, ◌∙◌, ap}
use Rattle.std.proofs.lemmas.List.{length-append}
use Rattle.flat_queue.specs.Gathered.{Gathers, licences_at}
use Rattle.flat_queue.specs.Members.{Coming}
use Rattle.flat_queue.proofs.Yielded.{given_has}
use Rattle.flat_queue.proofs.closing.unused_of.Goals as goal

pub loop-newcomer-preserved : goal.loop-newcomer-preserved
loop-newcomer-preserved g c =
    let table = c.args.desk.now.table in
    let xs = c.loop-newcomer.yielded in
    let it = c.into_iter-newcomer-iterator in
    let here = given_has (λ (n : Coming). n.queue.desk ≡ table) c.args.newcomers.items xs it.result c.loop-newcomer.newcomer-iterator c.next.new.self c.in-Some.newcomer it.ensures.into_iter_gives.0 c.loop-newcomer.yielded_by c.in-Some.ensures.steps c.requires in
    subst (λ n. Gathers table [] n c.both-all.result) (sym (length-append xs (c.in-Some.newcomer ∷ [])))
    (c.both-all.ensures.gathers [] [] (length xs) 1 c.loop-newcomer.invariant (c.newcomer.invariant ∙ ap (λ t. licences_at t 1) (ap (λ (n : Coming). n.queue.desk) c.newcomer.view_is ∙ here)))
