use Rattle.std.proofs.Common.{◌≡◌, [], ◌∷◌, ◌++◌, refl, ap, sym, ◌∙◌, subst}
use Rattle.atomic_table.specs.Seated.{TableId}
use Rattle.split_core.specs.TrailReads.{OnWay}
use Rattle.split_grid.specs.Tokens.{Running, Resting, Rests}
use Rattle.split_grid.specs.DoorLooks.{look, HasLooked}
use Rattle.split_grid.proofs.DoorLooks.{still_rests, looked_once}
use Rattle.split_grid.specs.Trails.{Following}
use Rattle.split_grid.proofs.TrailCalls.{door_within, place_within, reads}
use Rattle.split_grid.proofs.grid.Grid.follow.Goals as goal

pub see_door-closed-requires-clause-within : goal.see_door-closed-requires-clause-within
see_door-closed-requires-clause-within g c =
    let table : c.stopped.inside.seat.table_id ≡ c.self.inside.table.shared.table_id =
    ap (λ (x : Resting g.row.T-Tag.Denot). x.table) c.stopped.view_is
    ∙ (c.requires.table ∙ ap (λ (x : Running g.row.T-Tag.Denot). x.table) (sym c.self.view_is)) in
    let many : c.trail.inside.comers ≡ c.stopped.inside.seat.me.0.comers =
    ap (λ (x : Following). x.comers) c.trail.view_is
    ∙ (c.requires.comers ∙ ap (λ (x : Resting g.row.T-Tag.Denot). x.comers) (sym c.stopped.view_is)) in
    door_within _ c.trail.inside.tracker.diagonal c.next_row-row.result _ _ _ c.law_places.ensures many c.trail.invariant.inside
    c.next_row-row.ensures.within c.place_in-place.ensures
    (ap (λ (x : TableId). x.slots) (sym table) ∙ c.stopped.invariant.sized)

pub invariant_of-stopped : goal.invariant_of-stopped
invariant_of-stopped g c =
    let e = c.see_door-closed.ensures in
    subst (λ (x : TableId). Rests x.slots c.see_door-closed.new.seat.me c.stopped.inside.walker) (sym e.table)
    (still_rests _ _ _ _ c.stopped.inside.walker e.sees _ c.stopped.invariant)

pub returns-clause-reads : goal.returns-clause-reads
returns-clause-reads g c earlier z h =
    let e = c.see_door-closed.ensures in
    let many : c.trail.inside.comers ≡ c.args.stopped.now.comers = ap (λ (x : Following). x.comers) c.trail.view_is ∙ c.requires.comers in
    let turns = ap (λ (x : Resting g.row.T-Tag.Denot). x.comer.turns) c.stopped.view_is in
    let ran = subst (λ (x : Resting g.row.T-Tag.Denot). HasLooked x.comers x.comer (x.looks ++ look c.place_in-place.result c.see_door-closed.result ∷ []))
    c.stopped.view_is e.sees.run in
    reads earlier c.args.stopped.now c.trail.inside.comers c.args.trail.now c.trail.inside.tracker c.after_door-trail-inside.result z
    c.next_row-row.result c.place_in-place.result c.see_door-closed.result _ _
    many (ap (λ (x : Following). x.tracker) c.trail.view_is) refl h c.next_row-row.ensures.next c.place_in-place.ensures
    (λ on. e.sees.way (subst (λ ts. OnWay ts c.place_in-place.result) (sym turns) on))
    ran
    (looked_once _ _ _ _ c.stopped.inside.walker e.sees _ _ _ c.stopped.view_is e.table)
    c.after_door-trail-inside.ensures.stores

pub returns-clause-still : goal.returns-clause-still
returns-clause-still g c =
    let e = c.see_door-closed.ensures in
    let once = looked_once _ _ _ _ c.stopped.inside.walker e.sees _ _ _ c.stopped.view_is e.table in
    once ∙ ap (λ l. record c.args.stopped.now { looks = l }) (sym (ap (λ (x : Resting g.row.T-Tag.Denot). x.looks) once))

pub returns-clause-place : goal.returns-clause-place
returns-clause-place g c =
    let many : c.trail.inside.comers ≡ c.args.stopped.now.comers = ap (λ (x : Following). x.comers) c.trail.view_is ∙ c.requires.comers in
    place_within _ c.trail.inside.tracker.diagonal c.next_row-row.result _ _ c.law_places.ensures many c.trail.invariant.inside
    c.next_row-row.ensures.within c.place_in-place.ensures
