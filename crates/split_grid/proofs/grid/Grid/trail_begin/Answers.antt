use Rattle.std.proofs.Common.{◌≡◌, ap, sym, ◌∙◌, subst}
use Rattle.atomic_table.specs.Seated.{TableId}
use Rattle.split_core.specs.Trail.{trail_start}
use Rattle.split_core.specs.Tracker.{Stores}
use Rattle.split_grid.specs.Tokens.{Running}
use Rattle.split_grid.proofs.Scans.{same_comers}
use Rattle.split_grid.proofs.TrailCalls.{begins}
use Rattle.split_grid.proofs.grid.Grid.trail_begin.Goals as goal

pub returns-clause-comers : goal.returns-clause-comers
returns-clause-comers g c =
    let same : c.args.stopped.now.table ≡ c.self.inside.table.shared.table_id =
    c.requires.table ∙ ap (λ (x : Running g.row.T-Tag.Denot). x.table) (sym c.self.view_is) in
    c.self.invariant.counted ∙ sym
    (same_comers _ _ _ c.law_places.ensures c.self.invariant.sized.slots (ap (λ (x : TableId). x.slots) (sym same) ∙ c.stands.ensures.sized))

pub returns-clause-begins : goal.returns-clause-begins
returns-clause-begins g c =
    let same : c.args.stopped.now.table ≡ c.self.inside.table.shared.table_id =
    c.requires.table ∙ ap (λ (x : Running g.row.T-Tag.Denot). x.table) (sym c.self.view_is) in
    let many = c.self.invariant.counted
    ∙ sym (same_comers _ _ _ c.law_places.ensures c.self.invariant.sized.slots
    (ap (λ (x : TableId). x.slots) (sym same) ∙ c.stands.ensures.sized)) in
    begins c.args.stopped.now _ (subst (λ n. Stores n c.fresh.result trail_start) many c.fresh.ensures.stores)
