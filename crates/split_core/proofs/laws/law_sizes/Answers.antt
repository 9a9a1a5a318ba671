use Rattle.std.proofs.Common.{refl}
use Rattle.split_core.specs.Places.{place}
use Rattle.split_core.proofs.laws.law_sizes.Goals as goal

pub returns-clause-places : goal.returns-clause-places
unfolding place
returns-clause-places c = refl
