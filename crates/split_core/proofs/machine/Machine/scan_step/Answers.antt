use Rattle.std.proofs.Common.{refl, ◌≡◌, ◌∙◌, ◌+◌, length, arith, ap, slice_set, Some}
use Rattle.std.proofs.lemmas.Bool.{both_ways}
use Rattle.std.proofs.lemmas.Option.{slice_get_within}
use Rattle.split_core.specs.Places.{place}
use Rattle.split_core.specs.Grid.{run, opening}
use Rattle.split_core.specs.declared.cursor.Cursor.{Cursor}
use Rattle.split_core.proofs.Positions.{scan_unknown, scan_moving}
use Rattle.split_core.proofs.MachineScans.{cursor_on_grid, cursor_in_room, cursor_count, bound, scan_reached, scan_made, stored_after, told_of}
use Rattle.split_core.proofs.machine.Machine.scan_step.Goals as goal

pub returns-in_default-clause-refused : goal.returns-in_default-clause-refused
returns-in_default-clause-refused g c ids events end =
    scan_unknown c.args.self.now.walkers.items (run events (opening ids)) end.agrees.comers c.args.id c.in_default.ensures

pub returns-then-not-is_stopped-clause-refused : goal.returns-then-not-is_stopped-clause-refused
returns-then-not-is_stopped-clause-refused g c ids events end =
    scan_moving c.args.self.now.walkers.items
    (run events (opening ids)) end.agrees.comers c.args.id c.in-Some.who c.in-Some.walker c.in-Some.ensures
    (λ q. both_ways _ c.if-not-is_stopped.true (c.is_stopped.ensures.1 q))

pub read_door-seen-requires-clause-on_grid : goal.read_door-seen-requires-clause-on_grid
read_door-seen-requires-clause-on_grid g c =
    let now = c.args.self.now in
    let k = cursor_on_grid now.last.items now.doors.items now.walkers.items c.in-Some.who c.in-Some.walker c.in-Some.ensures.there now.stands in
    omega (arith, ap (λ (q : Cursor). q.row + q.column) c.current-cursor.ensures)

pub read_door-seen-requires-clause-room : goal.read_door-seen-requires-clause-room
read_door-seen-requires-clause-room g c =
    let now = c.args.self.now in
    let k = cursor_in_room now.last.items now.doors.items now.walkers.items c.in-Some.who c.in-Some.walker c.in-Some.ensures.there now.stands in
    omega (arith, ap (λ (q : Cursor). place q.row q.column) c.current-cursor.ensures, ap length c.as_slice.ensures.value)

pub read_door-seen-requires-clause-count : goal.read_door-seen-requires-clause-count
read_door-seen-requires-clause-count g c =
    let now = c.args.self.now in
    let k = cursor_count now.last.items now.doors.items now.walkers.items c.in-Some.who c.in-Some.walker c.in-Some.ensures.there now.stands in
    omega (arith, ap (λ (q : Cursor). q.doors) c.current-cursor.ensures)

pub index_mut-requires : goal.index_mut-requires
index_mut-requires g c =
    let k = slice_get_within c.args.self.now.walkers.items c.in-Some.who c.in-Some.walker c.in-Some.ensures.there in
    omega arith

pub invariant_of-self-clause-stands : goal.invariant_of-self-clause-stands
invariant_of-self-clause-stands g c =
    let now = c.args.self.now in
    let size : c.len.result ≡ length now.walkers.items = omega arith in
    scan_reached now.last.items now.doors.items now.walkers.items c.in-Some.who c.in-Some.walker c.in-Some.ensures.there now.stands
    c.current-cursor.result _ _ c.current-cursor.ensures refl
    (stored_after now.doors.items c.as_slice.result.now now.walkers.items c.len.result c.current-cursor.result c.read_door-seen.result.0
    c.as_slice.ensures.value size c.read_door-seen.ensures.after c.in-Some.walker)
    (c.is_stopped.ensures.0 c.if-not-is_stopped.false)

pub returns-clause-ok : goal.returns-clause-ok
returns-clause-ok g c ids events end =
    let now = c.args.self.now in
    let size : c.len.result ≡ length now.walkers.items = omega arith in
    let m = scan_made now.last.items now.doors.items now.walkers.items c.in-Some.who c.in-Some.walker c.in-Some.ensures.there ids events end
    c.current-cursor.result _ _ c.current-cursor.ensures refl
    (stored_after now.doors.items c.as_slice.result.now now.walkers.items c.len.result c.current-cursor.result c.read_door-seen.result.0
    c.as_slice.ensures.value size c.read_door-seen.ensures.after c.in-Some.walker)
    (c.is_stopped.ensures.0 c.if-not-is_stopped.false) c.args.id c.in-Some.ensures in
    record {
      event = m.0;
      made = m.1;
      shown =
          m.2 ∙ ap Some (told_of now.doors.items c.as_slice.result.now now.walkers.items c.len.result c.current-cursor.result
          c.read_door-seen.result.0 c.as_slice.ensures.value size c.read_door-seen.ensures.after c.read_door-seen.result.1
          c.read_door-seen.ensures.shown);
      stands = m.3;
    }

pub returns-clause-doors : goal.returns-clause-doors
returns-clause-doors g c =
    let now = c.args.self.now in
    let size : c.len.result ≡ length now.walkers.items = omega arith in
    λ who' r' h'. bound now.last.items now.doors.items
    (slice_set now.walkers.items c.in-Some.who (record c.in-Some.walker { cursor = c.read_door-seen.result.0 })) who' r' h'
    (scan_reached now.last.items now.doors.items now.walkers.items c.in-Some.who c.in-Some.walker c.in-Some.ensures.there now.stands
    c.current-cursor.result _ _ c.current-cursor.ensures refl
    (stored_after now.doors.items c.as_slice.result.now now.walkers.items c.len.result c.current-cursor.result c.read_door-seen.result.0
    c.as_slice.ensures.value size c.read_door-seen.ensures.after c.in-Some.walker)
    (c.is_stopped.ensures.0 c.if-not-is_stopped.false))
