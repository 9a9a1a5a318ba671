use Rattle.std.proofs.Common.{ap, arith}
use Rattle.split_grid.specs.Opening.{places_of}
use Rattle.split_grid.specs.Tokens.{Resting}
use Rattle.split_grid.proofs.Deals.{places_are}
use Rattle.split_grid.proofs.Resting.{place_inside}
use Rattle.split_grid.proofs.tokens.Stopped.place.Goals as goal

pub returns-clause-within : goal.returns-clause-within
returns-clause-within g c =
    omega (
      arith,
      place_inside _ _ _ c.law_places.ensures c.self.invariant,
      c.place_number.ensures,
      places_are c.law_places.ensures c.self.inside.seat.me.0.comers,
      ap (λ (x : Resting g.row.T-Tag.Denot). places_of x.comers) c.self.view_is,
    )
