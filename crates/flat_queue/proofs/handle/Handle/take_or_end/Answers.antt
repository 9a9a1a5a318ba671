use Rattle.std.proofs.Common.{◌∙◌}
use Rattle.desk_core.specs.Words.{word_number}
use Rattle.flat_queue.specs.Taking.{TakesOneBy}
use Rattle.flat_queue.specs.declared.event_count.Wakes.TheVariants.{EventOrEnd}
use Rattle.flat_queue.proofs.Takings.{takes_idle, or_ends_idle}
use Rattle.flat_queue.proofs.handle.Handle.take_or_end.Goals as goal

pub invariant_of-self : goal.invariant_of-self
invariant_of-self g c =
    let before = c.self.inside.member in
    let after = c.take_or_end.new.member in
    let h = or_ends_idle _ EventOrEnd (TakesOneBy (word_number g.P.Part.wide) EventOrEnd) before after c.take_or_end.result
    (λ told. takes_idle _ EventOrEnd before after told c.self.invariant.1) c.take_or_end.ensures.takes in
    (h.0 ∙ c.self.invariant.0, h.1)
