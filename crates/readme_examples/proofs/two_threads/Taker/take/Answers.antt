use Rattle.std.proofs.Common.{rules, ◌≡◌, ◌∙◌, ap, sym, [], ◌∷◌, ◌++◌, Some, None}
use Rattle.pq_types.specs.declared.request.Request.TheVariants.{Pop}
use Rattle.flat_queue.specs.Calling.{IsCalled, popped}
use Rattle.readme_examples.specs.Workers.{taken_out}
use Rattle.readme_examples.proofs.TakenOut.{after_pop, after_empty_pop}
use Rattle.readme_examples.proofs.two_threads.Taker.take.Goals as goal

pub invariant_of-self-in-Some : goal.invariant_of-self-in-Some
invariant_of-self-in-Some g c =
    let before : c.reserve.new.self.items ≡ taken_out c.self.inside.handle.pen.mine = search rules fits 300 in
    let called : IsCalled c.self.inside.handle Pop c.in_ok-number.number (popped (Some c.in-Some.item)) c.pop.new.self = search rules fits 300 in
    c.push_reserved.ensures.items ∙ ap (λ l. l ++ c.in-Some.item ∷ []) before ∙ sym (after_pop called)

pub invariant_of-self-in_default : goal.invariant_of-self-in_default
invariant_of-self-in_default g c =
    let before : c.reserve.new.self.items ≡ taken_out c.self.inside.handle.pen.mine = search rules fits 300 in
    let called : IsCalled c.self.inside.handle Pop c.in_ok-number.number (popped None) c.pop.new.self = search rules fits 300 in
    before ∙ sym (after_empty_pop called)
