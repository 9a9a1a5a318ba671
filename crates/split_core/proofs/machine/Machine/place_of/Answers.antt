use Rattle.std.proofs.Common.{◌∙◌, sym, ap, arith, Some}
use Rattle.std.proofs.lemmas.Bool.{both_ways}
use Rattle.split_core.specs.Grid.{run, opening}
use Rattle.split_core.proofs.Positions.{stop_unknown, stop_none}
use Rattle.split_core.proofs.Machines.{on_grid, stop_told}
use Rattle.split_core.proofs.machine.Machine.place_of.Goals as goal

pub returns-in_err-comer : goal.returns-in_err-comer
returns-in_err-comer g c ids events end =
    c.from_residual.ensures ∙ sym
    (stop_unknown c.args.self.now.walkers.items (run events (opening ids)) end.agrees.comers c.args.id c.in_err-comer.ensures)

pub place_number-requires : goal.place_number-requires
place_number-requires g c =
    let now = c.args.self.now in
    let k = on_grid now.last.items now.doors.items now.walkers.items c.in_ok-comer.field-0-0 c.in_ok-comer.comer
    c.in_ok-comer.ensures.there now.stands in
    omega arith

pub returns-then-is_stopped : goal.returns-then-is_stopped
returns-then-is_stopped g c ids events end =
    ap Some c.place_number.ensures
    ∙ stop_told c.args.self.now.walkers.items
    (run events (opening ids)) end.agrees.comers c.args.id c.in_ok-comer.field-0-0 c.in_ok-comer.comer c.in_ok-comer.ensures
    (c.is_stopped.ensures.0 c.if-is_stopped.true)

pub returns-else-is_stopped : goal.returns-else-is_stopped
returns-else-is_stopped g c ids events end =
    sym (stop_none c.args.self.now.walkers.items
    (run events (opening ids)) end.agrees.comers c.args.id c.in_ok-comer.field-0-0 c.in_ok-comer.comer c.in_ok-comer.ensures
    (λ q. both_ways _ c.if-is_stopped.false (c.is_stopped.ensures.1 q)))
