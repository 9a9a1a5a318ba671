use Rattle.std.proofs.Common.{◌∙◌, subst, arith}
use Rattle.std.specs.Prelude.{vec_items}
use Rattle.queue_load.specs.Load.{HaveCome}
use Rattle.queue_load.proofs.Failing.{all_made_then, first_end, next_end}
use Rattle.queue_load.proofs.Slicing.{first_made, next_made}
use Rattle.queue_load.proofs.slices.all_slices.Goals as goal

pub loop-made-init : goal.loop-made-init
loop-made-init g c =
    let contents = g.W.Write.contents in
    first_made c.args.load.now.queue.now c.args.load.now.plan c.args.load.now.slice c.args.states.items c.args.writing (contents c.args.writer.now) c.slice_end-made.result c.in_ok-worked.worked.items c.in_ok-worked.writing _ c.in_ok-worked.ensures.len c.in_ok-worked.ensures.come c.slice_end-made.ensures.next
    c.in_ok-worked.ensures.writes

pub next_slice-requires-clause-come : goal.next_slice-requires-clause-come
next_slice-requires-clause-come g c κs within = (c.loop-made.made, c.loop-made.invariant.come, omega (arith, c.slice_end-until.ensures.more))

pub loop-made-preserved : goal.loop-made-preserved
loop-made-preserved g c =
    let contents = g.W.Write.contents in
    next_made c.args.load.now.queue.now c.args.load.now.plan c.args.load.now.slice c.args.states.items c.args.writing (contents c.args.writer.now) c.loop-made.made c.slice_end-until.result (vec_items c.loop-made.worked) c.in_ok-now.now.items c.loop-made.writing c.in_ok-now.put
    (contents c.loop-made.writer) (contents c.next_slice.new.writer) c.loop-made.invariant (omega (arith, c.loop-made-test.true, c.of_each-all.ensures)) c.in_ok-now.ensures.len c.in_ok-now.ensures.come c.slice_end-until.ensures.next c.in_ok-now.ensures.writes

pub returns-clause-come : goal.returns-clause-come
returns-clause-come g c =
    let all = all_made_then c.args.load.now.plan c.args.load.now.slice c.loop-made.made c.loop-made.invariant.end (omega (arith, c.loop-made-test.false, c.of_each-all.ensures)) in
    subst (λ made. HaveCome g.P.Part.wide c.args.load.now.queue.now c.args.load.now.plan made (vec_items c.loop-made.worked)) all c.loop-made.invariant.come

pub slice-requires-clause-end : goal.slice-requires-clause-end
slice-requires-clause-end g c κs within = first_end c.args.load.now.plan c.args.load.now.slice c.slice_end-made.result c.slice_end-made.ensures.next

pub next_slice-requires-clause-end : goal.next_slice-requires-clause-end
next_slice-requires-clause-end g c κs within =
    next_end c.args.load.now.plan c.args.load.now.slice c.loop-made.made c.slice_end-until.result c.loop-made.invariant.end (omega (arith, c.loop-made-test.true, c.of_each-all.ensures)) c.slice_end-until.ensures.next

pub returns-clause-len : goal.returns-clause-len
returns-clause-len g c = c.loop-made.invariant.len

pub returns-clause-writes : goal.returns-clause-writes
returns-clause-writes g c = c.loop-made.invariant.writes

pub next_slice-requires-clause-count : goal.next_slice-requires-clause-count
next_slice-requires-clause-count g c κs within = c.loop-made.invariant.len ∙ c.requires.count
