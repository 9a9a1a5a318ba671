use Rattle.std.proofs.Common.{length, ap}
use Rattle.announce_board.specs.Tokens.{AtDesk}
use Rattle.flat_queue.proofs.Pens.{still_new}
use Rattle.flat_queue.proofs.Yielded.{given_at}
use Rattle.flat_queue.proofs.opening.asleep_each.Goals as goal

pub put_to_sleep-sleeper-requires-clause-table : goal.put_to_sleep-sleeper-requires-clause-table
put_to_sleep-sleeper-requires-clause-table g c =
    let it = c.into_iter-pen-iterator in
    let there = given_at c.args.pens.items c.loop-pen.yielded it.result c.loop-pen.pen-iterator c.next.new.self c.in-Some.pen it.ensures.into_iter_gives.0 c.loop-pen.yielded_by c.in-Some.ensures.steps in
    ap (λ (p : AtDesk). p.table) (c.requires (length c.loop-pen.yielded) c.in-Some.pen there)

pub put_to_sleep-sleeper-requires-clause-new : goal.put_to_sleep-sleeper-requires-clause-new
put_to_sleep-sleeper-requires-clause-new g c =
    let it = c.into_iter-pen-iterator in
    let there = given_at c.args.pens.items c.loop-pen.yielded it.result c.loop-pen.pen-iterator c.next.new.self c.in-Some.pen it.ensures.into_iter_gives.0 c.loop-pen.yielded_by c.in-Some.ensures.steps in
    still_new c.args.desk.now.table c.args.desk.now.room (length c.loop-pen.yielded) c.in-Some.pen (c.requires (length c.loop-pen.yielded) c.in-Some.pen there)
