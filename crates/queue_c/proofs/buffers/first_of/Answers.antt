use Rattle.std.proofs.Common.{take, ap, ◌∙◌}
use Rattle.std.proofs.lemmas.List.{take_min}
use Rattle.queue_c.specs.declared.buffers.TheConstants.{MOST_MANY}
use Rattle.queue_c.proofs.buffers.first_of.Goals as goal

pub returns-clause-first : goal.returns-clause-first
returns-clause-first c = ap (λ n. take n c.args.items.now) c.min.ensures ∙ take_min MOST_MANY c.args.items.now
