use Rattle.std.proofs.Common.{rules}
use Rattle.queue_pool.proofs.shared.SharedHandle.try_pop_all_up_to.Goals as goal

pub returns-clause-tries : goal.returns-clause-tries
returns-clause-tries g c =
    let e = c.in-Some.ensures in
    rw e.slots (search rules, (e.within, e.due, e.left, e.next, search rules, search rules, search rules))
