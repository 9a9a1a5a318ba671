use Rattle.std.proofs.Common.{rules, arith, ◌≡◌, length, ◌∙◌}
use Rattle.std.specs.Prelude.{vec_len}
use Rattle.flat_queue.specs.Members.{HasRoomForAll}
use Rattle.queue_load.specs.Asks.{may_give_up}
use Rattle.queue_load.specs.Load.{known_before, known_then}
use Rattle.queue_load.proofs.Failing.{fails_slice}
use Rattle.queue_load.proofs.JournalWriting.{goes_known, goes_trans}
use Rattle.queue_load.proofs.Opening.{have_come, knows_more}
use Rattle.queue_load.proofs.Slicing.{come_are_of}
use Rattle.queue_load.proofs.slices.slice.Goals as goal

pub first_writes-writing-requires : goal.first_writes-writing-requires
first_writes-writing-requires g c =
    record {
      here = come_are_of c.args.load.now.queue.now c.args.load.now.plan c.args.until c.in_ok-worked.worked.items
          (have_come (may_give_up g.G.Gate.may_answer c.args.load.now.asks) (HasRoomForAll g.S.Store.room c.args.load.now.queue.now) c.args.load.now.queue.now c.args.load.now.plan c.args.until c.args.states.items c.in_ok-worked.worked.items c.as_slice.result.now c.as_slice.ensures.value c.in_ok-worked.ensures.worked c.in_default.ensures.none);
    }

pub returns-clause-come : goal.returns-clause-come
returns-clause-come g c =
    c.first_writes-writing.ensures.come.come c.args.load.now.plan c.args.until
    (have_come (may_give_up g.G.Gate.may_answer c.args.load.now.asks) (HasRoomForAll g.S.Store.room c.args.load.now.queue.now) c.args.load.now.queue.now c.args.load.now.plan c.args.until c.args.states.items c.in_ok-worked.worked.items c.as_slice.result.now c.as_slice.ensures.value c.in_ok-worked.ensures.worked c.in_default.ensures.none)

pub returns-clause-writes : goal.returns-clause-writes
returns-clause-writes g c =
    let contents = g.W.Write.contents in
    let worked = c.in_ok-worked.worked.items in
    let count : length worked ≡ length c.args.states.items = search rules in
    let more = knows_more (may_give_up g.G.Gate.may_answer c.args.load.now.asks) (HasRoomForAll g.S.Store.room c.args.load.now.queue.now) c.args.load.now.queue.now c.args.load.now.plan c.args.until c.args.states.items worked c.as_slice.result.now c.as_slice.ensures.value count c.in_ok-worked.ensures.worked c.in_default.ensures.none in
    goes_trans c.args.writing c.args.writing c.first_writes-writing.result (contents c.args.writer.now) (contents c.args.writer.now) (contents c.first_writes-writing.new.writer) (known_before c.args.states.items) (known_then worked) (known_then c.first_writes-writing.new.worked.items)
    (goes_known c.args.writing (contents c.args.writer.now) (known_before c.args.states.items) (known_then worked) more) c.first_writes-writing.ensures.writes

pub returns-in-Some-clause-err : goal.returns-in-Some-clause-err
returns-in-Some-clause-err g c =
    let same : vec_len c.args.states ≡ length c.args.states.items = search rules in
    fails_slice (may_give_up g.G.Gate.may_answer c.args.load.now.asks) (HasRoomForAll g.S.Store.room c.args.load.now.queue.now) c.args.load.now.queue.now c.args.load.now.plan c.args.load.now.slice c.args.until c.args.states.items c.in_ok-worked.worked c.as_slice.result.now c.in-Some.error c.as_slice.ensures.value
    (c.as_slice.ensures.len ∙ c.in_ok-worked.ensures.all ∙ same ∙ c.requires.count) c.requires.end c.in_ok-worked.ensures.worked c.in-Some.ensures.some

pub all_work-requires-clause-few_workers : goal.all_work-requires-clause-few_workers
all_work-requires-clause-few_workers g c κs within = let few = c.args.load.now.plan.fits.few_workers in omega (arith, few, c.requires.count)
