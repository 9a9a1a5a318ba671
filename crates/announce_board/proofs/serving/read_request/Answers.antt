use Rattle.std.proofs.Common.{rules, ◌≡◌, true, false, refl}
use Rattle.pq_types.specs.Control.{kind_has_item}
use Rattle.desk_core.specs.Pen.{due_to}
use Rattle.std.specs.Prelude.{None}
use Rattle.announce_board.proofs.Answering.{finds_none, finds_plain_at, finds_push, due_read, push_is}
use Rattle.announce_board.proofs.serving.read_request.Goals as goal

pub returns-in_default-clause-finds : goal.returns-in_default-clause-finds
returns-in_default-clause-finds g c =
    let t = c.law_steps_tell.ensures in
    finds_none 0 t.waiters t.posts t.dues c.args.place _ _ c.in_default.ensures.loads

pub returns-then-not-is_push-clause-finds : goal.returns-then-not-is_push-clause-finds
returns-then-not-is_push-clause-finds g c =
    let t = c.law_steps_tell.ensures in
    let plain : kind_has_item c.in-Some.kind ≡ false = search rules in
    finds_plain_at _ t.waiters t.posts t.dues c.args.place _ _ c.in-Some.serial c.in-Some.kind _ c.with_item.result c.in-Some.ensures.loads c.requires.pen.leads plain c.with_item.ensures

pub load_cell-item-requires-clause-due : goal.load_cell-item-requires-clause-due
load_cell-item-requires-clause-due g c =
    let t = c.law_steps_tell.ensures in
    (due_to c.args.place c.in-Some.serial c.in-Some.kind None, due_read 0 t.waiters t.posts t.dues c.args.place _ _ c.in-Some.serial c.in-Some.kind c.in-Some.ensures.loads, refl, push_is 0 t.waiters t.posts t.dues c.in-Some.kind (search rules))

pub returns-clause-finds : goal.returns-clause-finds
returns-clause-finds g c =
    let t = c.law_steps_tell.ensures in
    let push : kind_has_item c.in-Some.kind ≡ true = search rules in
    finds_push _ t.waiters t.posts t.dues c.args.place _ _ _ c.in-Some.serial c.in-Some.kind c.load_cell-item.result c.in-Some.ensures.loads c.requires.pen.leads push c.load_cell-item.ensures.loads
