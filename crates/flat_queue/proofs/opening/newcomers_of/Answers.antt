use Rattle.std.proofs.Common.{◌≡◌, ◌∙◌, ◌<◌, ◌-◌, All, get_or, length, rules, subst, sym}
use Rattle.std.proofs.lemmas.List.Elements.{All-get_or, All-take}
use Rattle.flat_queue.specs.Gathered.{licences_at}
use Rattle.flat_queue.proofs.Yielded.{given_has}
use Rattle.flat_queue.proofs.opening.newcomers_of.Goals as goal

pub invariant_of-push : goal.invariant_of-push
invariant_of-push c =
    let it = c.into_iter-walking-iterator in
    let licence = c.unwrap-licence.result in
    let left = c.loop-walking.left in
    let some : 0 < left.len = search rules fits 300 in
    let in_range : left.len - 1 < length left.items = search rules fits 300 in
    let last : licence ≡ get_or left.items (left.len - 1) licence = cc (sym c.unwrap-licence.ensures ∙ c.pop.ensures.value licence some) in
    let here = given_has (λ w. All (λ t. t ≡ licences_at w.tag.sample.value.table 1) c.args.licences.items) c.args.walkers.items c.loop-walking.yielded it.result c.loop-walking.walking-iterator c.next.new.self c.in-Some.walking it.ensures.into_iter_gives.0 c.loop-walking.yielded_by c.in-Some.ensures.steps c.requires.licences in
    let all = subst (λ ts. All (λ t. t ≡ licences_at c.in-Some.walking.tag.sample.value.table 1) ts) (sym c.loop-walking.invariant.1) (All-take (λ t. t ≡ licences_at c.in-Some.walking.tag.sample.value.table 1) _ _ here) in
    last ∙ All-get_or (λ t. t ≡ licences_at c.in-Some.walking.tag.sample.value.table 1) left.items (left.len - 1) licence in_range all
