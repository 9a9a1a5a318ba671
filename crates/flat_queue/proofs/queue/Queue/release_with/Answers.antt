use Rattle.std.proofs.Common.{rules, sym, subst}
use Rattle.pq_types.specs.Operation.{Asked}
use Rattle.announce_board.specs.Slots.{MeetsTerms}
use Rattle.flat_queue.specs.Members.{QueueName}
use Rattle.flat_queue.proofs.OwnRequests.{releases_of}
use Rattle.flat_queue.proofs.queue.Queue.release_with.Goals as goal

pub returns-clause-releases : goal.returns-clause-releases
returns-clause-releases g c =
    let meets = subst (λ (q : QueueName). MeetsTerms q.terms c.args.lead.book) (sym c.requires.queue) c.requires.terms in
    releases_of c.args.member.now _ (Asked c.args.request) _ c.args.lead.book c.release_with-answer.ensures.after.0 c.requires.lead.book meets (search rules) (search rules) (search rules) (search rules)
