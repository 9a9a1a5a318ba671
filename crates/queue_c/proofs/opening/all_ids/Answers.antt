use Rattle.std.proofs.Common.{◌+◌, rules}
use Rattle.std.proofs.lemmas.List.FromFn.{fill_by_all}
use Rattle.queue_c.proofs.opening.all_ids.Goals as goal

pub returns : goal.returns
returns c = fill_by_all (λ k. k + 1) c.loop-k.ids 64 0 c.loop-k.invariant.0 (search rules)
