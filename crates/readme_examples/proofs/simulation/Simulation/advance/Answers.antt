use Rattle.std.proofs.Common.{◌∙◌, ap, sym, subst, List, ◌∷◌, [], ◌++◌}
use Rattle.pq_types.specs.Item.{Item}
use Rattle.readme_examples.specs.Agenda.{Held}
use Rattle.readme_examples.specs.Simulation.{IsInTime}
use Rattle.readme_examples.proofs.Times.{next_happens}
use Rattle.readme_examples.proofs.simulation.Simulation.advance.Goals as goal

-- the first event that was still to happen has happened
pub invariant_of-self-2 : goal.invariant_of-self-2
invariant_of-self-2 c =
    let event = c.in-Some.event in
    let popped = c.in_ok-event.ensures.ok in
    let happened = c.push_reserved.ensures.items ∙ ap (λ (xs : List Item). xs ++ event ∷ []) c.reserve.ensures.items in
    let next = next_happens c.self.inside.happened.items c.self.inside.pending.items c.self.inside.clock event c.self.invariant
    c.pop.ensures.ascending (sym popped.0 ∙ c.in-Some.is) in
    let time = ap (λ (x : Item). x.priority) c.event.view_is in
    subst (λ t. IsInTime c.push_reserved.new.self.items t c.pop.new.self.items) (sym time)
    (subst (λ xs. IsInTime xs event.priority c.pop.new.self.items) (sym happened)
    (subst (λ xs. IsInTime (c.self.inside.happened.items ++ event ∷ []) event.priority xs) (sym (ap (λ (h : Held). h.items) popped.1)) next))
