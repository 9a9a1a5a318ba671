use Rattle.std.proofs.Common.{◌≡◌, [], ◌∷◌, map, refl, subst, sym, ◌∙◌, ap}
use Rattle.std.proofs.lemmas.List.{map-append}
use Rattle.std.proofs.lemmas.List.Elements.{All-push}
use Rattle.flat_queue.specs.Closing.{retired_pen}
use Rattle.flat_queue.specs.Gathered.{Gathers}
use Rattle.flat_queue.specs.Members.{Joined}
use Rattle.flat_queue.proofs.closing.retired_of.Goals as goal

pub loop-member-preserved : goal.loop-member-preserved
loop-member-preserved g c =
    let table = c.args.desk.now.table in
    let xs = c.loop-member.yielded in
    let m = c.in-Some.member in (
      subst (λ ps. Gathers table ps 0 c.both-all.result) (sym (map-append retired_pen xs (m ∷ [])))
          (c.both-all.ensures.gathers (map retired_pen xs) (retired_pen m ∷ []) 0 0 c.loop-member.invariant.0
          (c.retire.ensures.gives ∙ ap (λ (n : Joined). record { table = table; pens = retired_pen n ∷ []; licences = 0 }) c.member.view_is)),
      All-push (λ (n : Joined). n.pen.room ≡ n.queue.room) xs m c.loop-member.invariant.1 (subst (λ (n : Joined). n.pen.room ≡ n.queue.room) c.member.view_is refl),
    )
