use Rattle.std.proofs.Common.{◌≡◌, ◌<◌, ℕ, ◌+◌, ◌-◌, ◌∙◌, ap, arith, ◌==◌, length}
use Rattle.split_core.specs.Grid.{run, opening}
use Rattle.split_core.specs.Places.{place}
use Rattle.split_core.proofs.TrailMachines.{read_next_is}
use Rattle.split_core.proofs.trail_machine.read_next.Goals as goal

pub returns-clause-reads : goal.returns-clause-reads
returns-clause-reads g c ids events words end counted st =
    let n = c.args.comers in
    let row = c.next_row-row.result in
    let door : ℕ → ℕ = (run events (opening ids)).door in
    let next = c.next_row-row.ensures.next words st in
    let beside : c.args.tracker.diagonal - row ≡ next.column = omega (arith, next.on) in
    let there : c.place_in-place.result ≡ place row next.column = c.place_in-place.ensures ∙ ap (place row) beside in
    let inside : row + next.column < length ids = omega (arith, next.on, c.requires.lawful.inside, counted) in
    let within : c.place_in-place.result < place 0 (length ids) = omega (arith, there, (c.law_places.ensures row next.column).within (length ids) inside) in
    let told : c.is_closed-closed.result ≡ (door (place row next.column) == 1) = c.is_closed-closed.ensures ids events end within ∙ ap (λ p. door p == 1) there in
    read_next_is n door words row next.column next.rest next.next c.after_door-after.result c.place_in-place.result c.is_closed-closed.result c.is_over-over.result there told
    (c.after_door-after.ensures.stores words (door (place row next.column)) told st) c.is_over-over.ensures.over
