use Rattle.std.proofs.Common.{refl}
use Rattle.split_core.specs.Places.{place}
use Rattle.split_core.proofs.places.place_number.Goals as goal

pub returns : goal.returns
unfolding place
returns c = refl
