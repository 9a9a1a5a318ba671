use Rattle.queue_load.specs.Asks.{may_give_up}
use Rattle.queue_load.specs.Lines.{load_room}
use Rattle.queue_load.specs.Load.{known_before, known_then}
use Rattle.queue_load.proofs.Failing.{fails_watched}
use Rattle.queue_load.proofs.watched.run_watched_of.Goals as goal

pub returns-clause-archived : goal.returns-clause-archived
returns-clause-archived g c =
    let contents = g.W.Write.contents in
    let first = contents c.args.writer.now in
    let ends = c.in_ok-report.ensures.ok in (
      ends.0,
      ends.1,
      ends.2,
      c.is_whole.ensures.writes first (contents c.all_slices.new.writer) ends.0.journal (known_then c.in-Ok.made.0.items)
          (c.in-Ok.ensures.writes.writes first (c.begins-writing.ensures.writes first (known_before c.in_ok-queue.states.items))) ends.3 ends.4,
    )

pub returns-in-Err-clause-error : goal.returns-in-Err-clause-error
returns-in-Err-clause-error g c =
    fails_watched _ (may_give_up g.G.Gate.may_answer c.args.order.asks) g.S.Store.room c.in_ok-queue.queue c.args.order.plan c.args.order.slice (load_room c.args.order.plan) c.in-Err.failed.error c.in-Err.failed.worked c.in_ok-queue.ensures.ok.room_is c.in-Err.ensures.err
