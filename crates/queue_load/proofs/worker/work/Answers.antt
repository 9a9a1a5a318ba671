use Rattle.std.proofs.Common.{refl, ◌∙◌}
use Rattle.flat_queue.specs.Members.{HasRoomForAll}
use Rattle.queue_load.specs.Asks.{may_give_up}
use Rattle.queue_load.specs.Worker.{known_of}
use Rattle.queue_load.proofs.Coming.{worked_refused}
use Rattle.queue_load.proofs.worker.work.Goals as goal

pub returns-in-Err : goal.returns-in-Err
returns-in-Err g c =
    let come = c.resumed-handle.ensures.come in
    worked_refused (may_give_up g.G.Gate.may_answer c.args.load.now.asks) (HasRoomForAll g.S.Store.room) c.args.load.now.queue.now _ c.args.worker _ c.args.load.now.plan c.args.until (known_of c.args.state) _ c.in-Err.reason (come.more.queue_is ∙ come.whole.queue_is) (come.more.id ∙ come.whole.id) refl
    c.in-Err.ensures.err
