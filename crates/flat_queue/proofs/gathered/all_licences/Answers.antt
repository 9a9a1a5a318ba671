use Rattle.std.proofs.Common.{◌≡◌, [], ◌∷◌, length, subst, sym}
use Rattle.std.proofs.lemmas.List.{length-append}
use Rattle.flat_queue.specs.Gathered.{Gathers, licences_at}
use Rattle.flat_queue.proofs.Yielded.{given_has}
use Rattle.flat_queue.proofs.gathered.all_licences.Goals as goal

pub loop-licence-preserved : goal.loop-licence-preserved
loop-licence-preserved g c =
    let table = c.args.desk.now.table in
    let xs = c.loop-licence.yielded in
    let it = c.into_iter-licence-iterator in
    let one = given_has (λ t. t ≡ licences_at table 1) c.args.licences.items xs it.result c.loop-licence.licence-iterator c.next.new.self c.in-Some.licence it.ensures.into_iter_gives.0 c.loop-licence.yielded_by c.in-Some.ensures.steps c.requires in
    subst (λ n. Gathers table [] n c.both-all.result) (sym (length-append xs (c.in-Some.licence ∷ []))) (c.both-all.ensures.gathers [] [] (length xs) 1 c.loop-licence.invariant one)
