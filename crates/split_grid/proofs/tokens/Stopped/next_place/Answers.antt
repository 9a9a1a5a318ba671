use Rattle.std.proofs.Common.{◌≡◌, false, ap, ◌∙◌, arith}
use Rattle.split_core.specs.declared.walker.Walker.{Walker}
use Rattle.split_grid.specs.Tokens.{Resting}
use Rattle.split_grid.proofs.Scans.{door_bounds}
use Rattle.split_grid.proofs.tokens.Stopped.next_place.Goals as goal

pub place_behind-requires : goal.place_behind-requires
place_behind-requires g c =
    let more : c.self.inside.walker.cursor.over ≡ false =
    ap (λ (x : Walker). x.cursor.over) c.self.invariant.stored ∙ (ap (λ (x : Resting g.row.T-Tag.Denot). x.scan.over) c.self.view_is ∙ c.requires) in
    let b = door_bounds _ _ _ c.law_places.ensures c.self.invariant more in
    omega (arith, b)
