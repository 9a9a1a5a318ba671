use Rattle.std.proofs.Common.{length, arith, ap, refl}
use Rattle.std.proofs.lemmas.Bool.{both_ways}
use Rattle.std.proofs.lemmas.List.{with_items_is}
use Rattle.std.proofs.lemmas.Option.{slice_get_within}
use Rattle.split_core.specs.Grid.{Goes, run, opening}
use Rattle.split_core.proofs.Positions.{step_unknown, step_stopped}
use Rattle.split_core.proofs.Machines.{on_grid, last_room, door_room, then_reached, step_made}
use Rattle.split_core.proofs.machine.Machine.step.Goals as goal

pub returns-in_default-clause-refused : goal.returns-in_default-clause-refused
returns-in_default-clause-refused g c ids events end =
    step_unknown c.args.self.now.walkers.items (run events (opening ids)) end.agrees.comers c.args.id c.in_default.ensures

pub returns-then-is_stopped-clause-refused : goal.returns-then-is_stopped-clause-refused
returns-then-is_stopped-clause-refused g c ids events end =
    step_stopped c.args.self.now.walkers.items
    (run events (opening ids)) end.agrees.comers c.args.id c.in-Some.who c.in-Some.walker c.in-Some.ensures
    (c.is_stopped.ensures.0 c.if-is_stopped.true)

pub take_step-seen-requires-clause-on_grid : goal.take_step-seen-requires-clause-on_grid
take_step-seen-requires-clause-on_grid g c =
    let now = c.args.self.now in
    on_grid now.last.items now.doors.items now.walkers.items c.in-Some.who c.in-Some.walker c.in-Some.ensures.there now.stands

pub take_step-seen-requires-clause-last_room : goal.take_step-seen-requires-clause-last_room
take_step-seen-requires-clause-last_room g c =
    let now = c.args.self.now in
    let k = last_room now.last.items now.doors.items now.walkers.items c.in-Some.who c.in-Some.walker c.in-Some.ensures.there now.stands in
    omega (arith, ap length c.as_mut_slice.ensures.value)

pub take_step-seen-requires-clause-door_room : goal.take_step-seen-requires-clause-door_room
take_step-seen-requires-clause-door_room g c =
    let now = c.args.self.now in
    let k = door_room now.last.items now.doors.items now.walkers.items c.in-Some.who c.in-Some.walker c.in-Some.ensures.there now.stands in
    omega (arith, ap length c.as_mut_slice-2.ensures.value)

pub index_mut-requires : goal.index_mut-requires
index_mut-requires g c =
    let k = slice_get_within c.args.self.now.walkers.items c.in-Some.who c.in-Some.walker c.in-Some.ensures.there in
    omega arith

pub invariant_of-self-clause-stands : goal.invariant_of-self-clause-stands
invariant_of-self-clause-stands g c =
    let now = c.args.self.now in
    then_reached now.last.items now.doors.items now.walkers.items c.in-Some.who c.in-Some.walker c.in-Some.ensures.there now.stands
    c.in-Some.walker c.take_step-seen.result.0 c.as_mut_slice.result.now c.take_step-seen.new.last _ c.as_mut_slice-2.result.now
    c.take_step-seen.new.doors _ c.take_step-seen.result.1
    refl c.as_mut_slice.ensures.value c.as_mut_slice-2.ensures.value c.take_step-seen.ensures
    (with_items_is now.last c.take_step-seen.new.last (omega arith)) (with_items_is now.doors c.take_step-seen.new.doors (omega arith))

pub returns-clause-ok : goal.returns-clause-ok
returns-clause-ok g c ids events end =
    let now = c.args.self.now in
    let m = step_made now.last.items now.doors.items now.walkers.items c.in-Some.who c.in-Some.walker c.in-Some.ensures.there now.stands
    c.in-Some.walker c.take_step-seen.result.0 c.as_mut_slice.result.now c.take_step-seen.new.last _ c.as_mut_slice-2.result.now
    c.take_step-seen.new.doors _ c.take_step-seen.result.1
    refl c.as_mut_slice.ensures.value c.as_mut_slice-2.ensures.value c.take_step-seen.ensures
    (with_items_is now.last c.take_step-seen.new.last (omega arith)) (with_items_is now.doors c.take_step-seen.new.doors (omega arith))
    ids events end c.args.id c.in-Some.ensures (λ q. both_ways _ c.if-is_stopped.false (c.is_stopped.ensures.1 q)) in
    record { event = Goes c.in-Some.who; made = m.0; shown = m.1; stands = m.2 }
