use Rattle.std.proofs.Common.{rules, sym, subst}
use Rattle.announce_board.specs.Slots.{MeetsTerms}
use Rattle.flat_queue.specs.Batches.{IsPop}
use Rattle.flat_queue.specs.Members.{QueueName}
use Rattle.flat_queue.proofs.Together.{releases_batch}
use Rattle.flat_queue.proofs.queue.Queue.pop_and_release.Goals as goal

pub returns-clause-releases : goal.returns-clause-releases
returns-clause-releases g c =
    let meets = subst (λ (q : QueueName). MeetsTerms q.terms c.args.lead.book) (sym c.requires.queue) c.requires.terms in
    releases_batch c.args.member.now _ _ IsPop _ c.pop_each-lead.new.pen.state c.args.lead.book c.requires.lead.book meets (search rules) (search rules) (search rules)
