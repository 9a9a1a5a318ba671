use Rattle.std.proofs.Common.{rules, ◌≡◌, Some, ap, sym, ◌∙◌, subst}
use Rattle.atomic_table.specs.Seated.{TableId}
use Rattle.split_core.specs.declared.model.Next.TheVariants.{Stopped}
use Rattle.split_grid.specs.Tokens.{Rests, Running, Walking, Walks}
use Rattle.split_grid.proofs.Resting.{home_slot, home_rests, still_walks}
use Rattle.split_grid.proofs.grid.Grid.stride.Goals as goal

pub exchange-requires : goal.exchange-requires
exchange-requires g c =
    let step = c.take_step-after.ensures in
    let stops : c.take_step-after.result.next ≡ Stopped = search rules in
    let home = home_slot g.T.Fits.fits _ _ _ _ _ step.strode step.stored stops c.place_number-place.ensures in (
      step.table ∙ (ap (λ (x : Walking g.row.T-Tag.Denot). x.table) c.newcomer.view_is
          ∙ (c.requires.table ∙ ap (λ (x : Running g.row.T-Tag.Denot). x.table) (sym c.self.view_is))),
      (Some home.0, home.1),
    )

pub invariant_of-result : goal.invariant_of-result
invariant_of-result g c =
    let step = c.take_step-after.ensures in
    subst (λ (x : TableId). Walks x.slots c.take_step-after.new.seat.me c.take_step-after.result) (sym step.table)
    (still_walks g.T.Fits.fits _ _ _ _ _ _ c.newcomer.invariant step.strode step.stored (search rules))

pub invariant_of-stopped : goal.invariant_of-stopped
invariant_of-stopped g c =
    let step = c.take_step-after.ensures in
    let stops : c.take_step-after.result.next ≡ Stopped = search rules in
    let same : c.exchange.new.seat.table_id ≡ c.newcomer.inside.seat.table_id = c.exchange.ensures.0 ∙ step.table in
    subst (λ (x : TableId). Rests x.slots c.exchange.new.seat.me c.take_step-after.result) (sym same)
    (home_rests g.T.Fits.fits _ c.law_places.ensures _ _ _ _ _ _ c.newcomer.invariant step.strode
    (ap (λ m. m.0) c.exchange.ensures.3) step.stored stops)

pub returns-then-is_stopped-clause-stride : goal.returns-then-is_stopped-clause-stride
returns-then-is_stopped-clause-stride g c = (
  search rules,
  record {
    table = search rules;
    tag = search rules;
    comers = search rules;
    id = search rules;
    stopped = search rules;
    value = search rules;
    bounded = search rules;
    inside = search rules;
    few = search rules;
    scan = search rules;
    unscanned = search rules;
    unseen = search rules;
    unlooked = search rules;
  },
)
