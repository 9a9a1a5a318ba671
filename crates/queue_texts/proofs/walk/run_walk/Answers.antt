use Rattle.std.proofs.Common.{refl, sym}
use Rattle.queue_texts.specs.WalkText.{orders}
use Rattle.queue_texts.specs.WalkSteps.{IsWalk}
use Rattle.queue_texts.proofs.Follow.{nothing_done}
use Rattle.queue_texts.proofs.WalkLemmas.{walk_writes}
use Rattle.queue_texts.proofs.walk.run_walk.Goals as goal

pub returns : goal.returns
returns g c input known =
    let run = c.run_script.ensures input known in
    (run.0, run.1, walk_writes (λ s p. IsWalk s.ids.items s.machine p) (λ s. s.kind) _ input _ _ _ (sym c.new.ensures, (refl, refl)) run.2)

pub returns-in_default : goal.returns-in_default
returns-in_default g c input known = nothing_done (orders c.args.kind) _ input _ _ known
