use Rattle.std.proofs.Common.{◌<◌, subst, sym}
use Rattle.desk_core.specs.Words.{word_number}
use Rattle.flat_queue.specs.Limits.{most_posts}
use Rattle.flat_queue.specs.Members.{HasRoomForAll}
use Rattle.flat_queue.proofs.OwnRequests.{tried_behind}
use Rattle.flat_queue.proofs.queue.Queue.enter_or_wait.Goals as goal

pub returns : goal.returns
returns g c =
    tried_behind (word_number g.P.Part.wide) c.args.member.now c.try_call.new.member c.try_or_wait.new.member c.args.request
    (HasRoomForAll g.S.Store.room c.args.self.now) c.try_or_wait.result c.in_default.ensures.held
    (subst (λ q. c.args.member.now.pen.posts < most_posts q.room) (sym c.requires.queue) c.in_default.ensures.few) c.try_or_wait.ensures
