use Rattle.std.proofs.Common.{rules, ◌<◌, ap, sym, subst, Some}
use Rattle.announce_board.specs.Asking.{IsAnswerTo}
use Rattle.flat_queue.specs.Limits.{most_posts}
use Rattle.flat_queue.proofs.queue.Queue.step_trying.Goals as goal

pub returns-in-Some-clause-tries : goal.returns-in-Some-clause-tries
returns-in-Some-clause-tries g c =
    let few : c.args.member.now.pen.posts < most_posts c.args.member.now.queue.room = search rules in
    let it = c.in-Some in
    (few, it.ensures.carries, subst (λ q. IsAnswerTo q.room c.args.request it.answer) (sym c.requires.queue) it.ensures.answers, λ r e. it.ensures.memory r (ap Some e))
